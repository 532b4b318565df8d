use Rattle.std.specs.Prelude.{flat_map, option_map}
use Rattle.std.proofs.Common.{◌≡◌, ◌++◌, ◌∙◌}
use Rattle.std.proofs.lemmas.Result.{on_ok_weaker}
use Rattle.pif_explore_told.specs.declared.reported.Reported.TheVariants.{Race, Deadlock, Cycle, LostWakeUp, Livelock}
use Rattle.pif_explore_told.specs.Reported.{if_found, stuck_told}
use Rattle.pif_explore_told.proofs.TellingLemmas.{mapped, seven_more}
use Rattle.pif_explore_told.proofs.reported.push_state_faults.Goals as goal

pub returns : goal.returns
returns g c =
    let told = g.T.TellFaults.told c.args.way.now in
    let nodes = c.args.nodes.now in
    let f = c.args.faults.now in
    let race : c.map.result ≡ option_map Race f.race = mapped Race f.race c.map.result c.map.ensures.cases in
    let deadlock : c.map-2.result ≡ option_map Deadlock f.deadlock = mapped Deadlock f.deadlock c.map-2.result c.map-2.ensures.cases in
    let cycle : c.map-3.result ≡ option_map Cycle f.cycle = mapped Cycle f.cycle c.map-3.result c.map-3.ensures.cases in
    let lost : c.map-4.result ≡ option_map LostWakeUp f.lost_wake_up = mapped LostWakeUp f.lost_wake_up c.map-4.result c.map-4.ensures.cases in
    let livelock : c.map-5.result ≡ option_map Livelock f.livelock = mapped Livelock f.livelock c.map-5.result c.map-5.ensures.cases in
    on_ok_weaker c.push_if-6.result
    (λ more. seven_more c.args.out.now.items _ _ _ _ _ _ _ (if_found told nodes c.map.result) (if_found told nodes c.misuse_of.result)
    (if_found told nodes c.map-2.result) (if_found told nodes c.map-3.result) (if_found told nodes c.map-4.result)
    (flat_map (stuck_told told nodes) c.as_slice.result.now) (if_found told nodes c.map-5.result)
    c.in_ok-push_if.ensures c.in_ok-push_if-2.ensures c.in_ok-push_if-3.ensures c.in_ok-push_if-4.ensures c.in_ok-push_if-5.ensures
    c.in_ok-push_all_stuck.ensures more
    ∙ (λ i. c.args.out.now.items
    ++ (if_found told nodes (race i)
    ++ (if_found told nodes (c.misuse_of.ensures i)
    ++ (if_found told nodes (deadlock i)
    ++ (if_found told nodes (cycle i)
    ++ (if_found told nodes (lost i)
    ++ (flat_map (stuck_told told nodes) (c.as_slice.ensures.value i) ++ if_found told nodes (livelock i))))))))
    )
    c.push_if-6.ensures
