use Rattle.pif_parts.proofs.past.Past.stands_for.Goals as goal

pub returns : goal.returns
returns c = λ lines others h k e. record {
  quiet = c.is_quiet.ensures.quiet lines h c.if-not-is_quiet.false;
  others_quiet = c.is_quiet-2.ensures.quiet others k c.if-not-is_quiet-2.false;
  alike = c.rests_as.ensures lines others h.rest k.rest e;
}
