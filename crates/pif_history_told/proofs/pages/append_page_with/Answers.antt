use Rattle.pif_history_told.proofs.Appending.{page_grown}
use Rattle.pif_history_told.proofs.pages.append_page_with.Goals as goal

pub returns : goal.returns
returns c = page_grown _ _ _ _ _ _ _ _ c.in_ok-append_texts.ensures c.in_ok-append_parts.ensures c.in_ok-append_texts-2.ensures
