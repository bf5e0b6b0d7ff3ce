-- Numbers of states that run a second transducer over outputs.
use Rattle.std.proofs.Common.{ℕ, ◌≡◌, true, true≢false, List, slice_get, Some, eqb-true, refl, sym, ap, ap₂, ◌∙◌}
use Rattle.std.proofs.lemmas.Bool.{and_parts}
use Rattle.std.specs.Cmp.Lexicographic.{same_text}
use Rattle.indexmap.specs.IndexSet.{insert_key}
use Rattle.model_sttr.specs.Transducer.{run}
use Rattle.sttr_theory.specs.Copies.{on_same}
use Rattle.sttr_run.specs.Plain.{plain_head}
use Rattle.sttr_run.specs.declared.triples.Head.{Head}
use Rattle.sttr_run.specs.declared.triples.Head.TheVariants as head
use Rattle.sttr_run.specs.contracts.triples.HeadPartialEq.TheImpl.{ghosts as head_compares}
use Rattle.sttr_preimage.specs.declared.called.Called.{Called}
use Rattle.sttr_preimage.specs.declared.called.Called.TheVariants as kind
use Rattle.sttr_preimage.specs.contracts.called.CalledPartialEq.TheImpl.{ghosts as compares}
use Rattle.sttr_preimage.specs.Called.{through, plain_called, called_in}
use Rattle.sttr_preimage.specs.Names.{IsNumber}
use Rattle.sttr_preimage.proofs.Numbered.{number_of}

same_head : (a b : Head) → head_compares.eq a b ≡ true → a ≡ b
same_head head.Same head.Same e = refl
same_head head.Same (head.Run q) e = absurd (true≢false (sym e))
same_head (head.Run q) head.Same e = absurd (true≢false (sym e))
same_head (head.Run q) (head.Run r) e = ap head.Run (eqb-true q r e)

same_called : (a b : Called) → compares.eq a b ≡ true → plain_called a ≡ plain_called b
same_called (kind.Through q xs h) (kind.Through r ys k) e =
    let first = and_parts _ _ e in
    let more = and_parts _ _ first.1 in
    ap₂ (λ i all. through i all (plain_head h)) (eqb-true q r first.0) (same_text xs.items ys.items (sym more.0)) ∙ ap (λ z. through r ys.items (plain_head z)) (same_head h k more.1)
same_called (kind.Through q xs h) (kind.Own r) e = absurd (true≢false (sym e))
same_called (kind.Own q) (kind.Through r ys k) e = absurd (true≢false (sym e))
same_called (kind.Own q) (kind.Own r) e = ap (λ i. on_same (run i)) (eqb-true q r e)

pub called_among : (keys new : List Called) (k z : Called) (n : ℕ) → new ≡ insert_key compares.eq keys k → slice_get new n ≡ Some z → compares.eq k z ≡ true → IsNumber (called_in keys) (called_in new) (plain_called k) n
called_among = number_of compares.eq plain_called same_called
