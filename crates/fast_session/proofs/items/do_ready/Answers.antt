use Rattle.std.proofs.Common.{inl, inr, ap}
use Rattle.fast_syntax.specs.Plain.{plain_body}
use Rattle.fast_session.proofs.Silent.{done_sorts, done_lang, done_trans}
use Rattle.fast_session.proofs.items.do_ready.Goals as goal

pub returns-in-Sorts-clause-done : goal.returns-in-Sorts-clause-done
returns-in-Sorts-clause-done c = elim c.in-Sorts.is [
  | inl own ↦ done_sorts _ _ _ c.requires.composable _ (ap plain_body own.1)
  | inr (inl own) ↦ done_lang _ _ _ c.requires.composable _ (ap plain_body own.1)
  | inr (inr own) ↦ done_trans _ _ _ c.requires.composable _ (ap plain_body own.1)
]
