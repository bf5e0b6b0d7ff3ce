-- The plain term that a term is.
use Rattle.model_sttr.specs.Terms.{on, build, Parts, no_parts, part}
use Rattle.model_sttr.specs.Terms as plain
use Rattle.model_sttr.specs.Transducer.{Head, identity, run}
use Rattle.sttr_core.specs.declared.term.Term.{Term, Same, Call, Node', Row_of-Term, end_of-Term, more_of-Term}

module _ {M : Type 0} where
  abbrev mutual
    pub plain_term : Term M → plain.Term Head M
    plain_term (Same j) = on identity j
    plain_term (Call q j) = on (run q) j
    plain_term (Node' c m shape ps) = build c m (plain_parts ps)

    pub plain_parts : {n : _} → Row_of-Term M n → Parts Head M
    plain_parts end_of-Term = no_parts
    plain_parts (more_of-Term p ps) = part (plain_term p) (plain_parts ps)
