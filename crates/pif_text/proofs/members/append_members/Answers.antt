use Rattle.std.proofs.Common.{◌∙◌, ◌∷◌, [], append_assoc}
use Rattle.pif_text.specs.Members.{members_text}
use Rattle.pif_text.proofs.MemberLemmas.{members_comma, members_comma_start, members_on, members_start, members_whole}
use Rattle.pif_text.proofs.members.append_members.Goals as goal

pub loop-member-init : goal.loop-member-init
loop-member-init c =
    record {
      text = members_start c.args.members.now c.push.new.self.items;
      comma = c.as_slice-comma.ensures ∙ members_comma_start c.args.members.now;
    }

pub loop-member-preserved : goal.loop-member-preserved
loop-member-preserved c =
    let on = members_on c.args.members.now c.push.new.self.items c.loop-member.out.items c.loop-member.comma.now
    c.loop-member.member-index _ c.loop-member-test.true c.loop-member.invariant.text c.loop-member.invariant.comma in
    record {
      text = rw (c.in_ok-append_member.ensures, c.in_ok-extend_from_slice.ensures.items) on;
      comma = c.as_slice-comma-in-loop-member.ensures
          ∙ members_comma c.args.members.now c.loop-member.member-index c.loop-member-test.true;
    }

pub returns : goal.returns
returns c =
    members_whole c.args.members.now c.push.new.self.items c.loop-member.out.items c.loop-member.member-index
    c.loop-member-test.false c.loop-member.invariant.text
    ∙ rw c.in_ok-push.ensures.items (append_assoc c.args.out.now.items (c.args.first ∷ []) (members_text c.args.members.now))
