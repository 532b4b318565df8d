-- The words that the proofs by hand cite, passed on from one place.
pub use mathlib.Core.Path.{◌≡◌, refl, sym, subst, ap, ◌∙◌}
pub use mathlib.Core.Bool.{Bool, true, false}
pub use mathlib.Core.List.{List, [], ◌∷◌, ◌++◌}
pub use Prim.Native.Nat.{ℕ}
pub use lib.Dec.{T, lit<}
pub use seplogic.Ra.Ura.{Ura}
pub use base.Logic.{SProp, ent, emp, id⊢, never, fst∗}
pub use base.Fml.{Fml, ftrue, fsep, flft}
pub use mir.Syntax.{Fn, Args, Dict, Body, a_type, dcons, dnil, place, copy, assign, rv_opd, seq, return}
pub use mir.MapTy.{inst_fn}
pub use mir.Val.{Val, vptr, vnull, vstruct, of_list, has_ty, WT}
pub use contract.BorrowLft.{◌⊑◌}
pub use contract.Monad.{fact}
pub use contract.Running.{tables}
pub use prog.Wp.{WpFn}
pub use denote.Triple.Table.{framed}
pub use types.Logic.{sem}
pub use types.Kit.{‵, raw, ◌⊛◌, some, later, at_ret, prop, ◌$◌, ◌∵◌, !, qed, by, move, drop, use1, join, split, split3, pick, rewrite, fsplit, fjoin, fpick, fpack, feq_i, feq_l, suffices, regoal, await, done}
pub use types.Part.{whole, sub, agg}
pub use types.Run.{enter, of_opd, lit, stop, fld, no_more, and_then, returns, first, blocks, exec}
pub use types.ByLocal.{alloc_all, pass_all, free_all, look_at, get, get_in, sets, lands_as, lands_last, env}
pub use denote.RattleType.{RattleType, Valss}
pub use denote.Exit.{yes, no}
pub use denote.Param.{bounded}
pub use denote.RawPtr.{Ptr, RawPtr, block_ptr, null_ptr, ptr_val, in_a_block}
pub use denote.Signature.{Slot, plain}
pub use denote.Steps.{heard, nothing, only}
pub use denote.Struct.Struct.{within}
pub use denote.Struct.Owning.{shape, fields, to}
pub use denote.Struct.Tuple.{Tuple}
pub use denote.Triple.Call.{calls_at, calls_at_last}
pub use denote.Triple.Clauses.{Ended}
pub use denote.Triple.Spec.{triple_of}
pub use denote.Triple.Walked.{Stays, says, stay_dropped, walk_of, ends_at, Goes-dropped}
pub use Rattle.std.proofs.raw_atomic.Walks.{proved_at}
pub use Rattle.core.proofs.alloc.Calls.{token, handle_tells, Goes-blank}
pub use Rattle.std_alloc.specs.Box.Ownership.{box_owns}
pub use Rattle.std_alloc.proofs.BoxSteps.Form.{Bx, D, R, P, B, word, box_ty, box_typed}
pub use Rattle.std_alloc.proofs.BoxSteps.Steps.{box_out, box_in}
