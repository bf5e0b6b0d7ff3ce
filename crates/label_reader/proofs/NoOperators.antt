-- Words that are no operators.
use Rattle.std.proofs.Common.{◌≡◌, sym, ap, ◌∙◌, inl, inr, arith}
use Rattle.model_program.specs.declared.Word.{Word}
use Rattle.model_program.specs.declared.Word.TheVariants as word
use Rattle.model_grammar.specs.declared.Chain.{Chain}
use Rattle.model_grammar.specs.declared.Chain.TheVariants.{Disjunction, Conjunction, Sum, Product}
use Rattle.model_grammar.specs.declared.Rel.TheVariants.{Equal, NotEqual, Less, AtMost, Greater, AtLeast}
use Rattle.model_grammar.specs.Operators.{IsMany}
use Rattle.label_reader.specs.Levels.{strength, IsNoRel, IsNoMany}
use Rattle.label_reader.proofs.LevelForms.{rel_strength}

pub no_rel : (w : Word) → (w ≡ word.Equal → ⊥) → (w ≡ word.NotEqual → ⊥) → (w ≡ word.Less → ⊥) → (w ≡ word.AtMost → ⊥) → (w ≡ word.Greater → ⊥) → (w ≡ word.AtLeast → ⊥) → IsNoRel w
no_rel w a b c d e f Equal is = a is
no_rel w a b c d e f NotEqual is = b is
no_rel w a b c d e f Less is = c is
no_rel w a b c d e f AtMost is = d is
no_rel w a b c d e f Greater is = e is
no_rel w a b c d e f AtLeast is = f is

pub no_many : (w : Word) → (w ≡ word.Or → ⊥) → (w ≡ word.And → ⊥) → (w ≡ word.Plus → ⊥) → (w ≡ word.Star → ⊥) → IsNoMany w
no_many w a b c d Disjunction is = absurd (a is)
no_many w a b c d Conjunction is = absurd (b is)
no_many w a b c d Sum (inl is) = absurd (c is)
no_many w a b c d Sum (inr is) = is
no_many w a b c d Product is = absurd (d is)

-- by how tightly they bind
pub not_rel : {w : Word} (other : Word) → w ≡ other → (strength other ≡ 4 → ⊥) → IsNoRel w
not_rel other is none r is_rel = none (ap strength (sym is ∙ is_rel) ∙ rel_strength r)

pub many_no_rel : (k : Chain) {w : Word} → IsMany k w → IsNoRel w
many_no_rel Disjunction is = not_rel word.Or is (λ e. omega (arith, e))
many_no_rel Conjunction is = not_rel word.And is (λ e. omega (arith, e))
many_no_rel Sum (inl is) = not_rel word.Plus is (λ e. omega (arith, e))
many_no_rel Sum (inr is) = not_rel word.Minus is (λ e. omega (arith, e))
many_no_rel Product is = not_rel word.Star is (λ e. omega (arith, e))
