-- What a decision says of labels of whole numbers.
use Rattle.std.proofs.Common.{◌≡◌, ℕ, ◌≤◌, ◌-◌, List, ◌++◌, length, take, replicate, get_or, refl, ap, sym, ◌∙◌, subst, arith}
use Rattle.std.proofs.Math.IntN.{ℤ, pos}
use Rattle.std.specs.Prelude.{FitsSigned}
use Rattle.std.specs.Int.{w64}
use Rattle.std.proofs.lemmas.Int.{fits_signed_from_abs}
use Rattle.std.proofs.lemmas.List.{get_or_append_left, get_or-take, get_or-map, length-take-le, length-map, length-append, length-replicate}
use Rattle.std.proofs.lemmas.List.Elements.{All-append, All-replicate, All-map}
use Rattle.model_tree.specs.Label.{Label}
use Rattle.model_form.proofs.Over.{AgreeBelow, value_agree}
use Rattle.model_chain.specs.Literals.{Literal, HoldsAll, AreLiteralsOver, compare_holds, related}
use Rattle.model_chain.specs.Chains.{IsFar, HasFarValue}
use Rattle.model_chain.proofs.Meaning.{far_has_values}
use Rattle.label_core.specs.Lit.{SatisfiesAll, LitsFit}
use Rattle.label_core.specs.declared.theory.Lit.{Lit}
use Rattle.lin_solve.specs.declared.compare.Compare.{Compare}
use Rattle.lin_solve.specs.declared.chain.Chain.{Chain}
use Rattle.label_core.specs.declared.theory.Verdict.TheVariants.{Wide}
use Rattle.lin_solve.specs.Plain.{plain_compare, plain_relation, plain_literal, plain_literals}
use Rattle.lin_solve.specs.Shown.{AllKept, plain_chain, PassesWidth, Answers}
use Rattle.lin_solve.specs.Wholes.{wholes_label, IsWholes, KeepsWholes, compare_at, CompareFits}
use Rattle.lin_solve.specs.Equal.{wholes_back}
use Rattle.lin_solve.specs.Kept.{AreKept, AreSome}
use Rattle.lin_solve.specs.contracts.compare.ComparePartialEq.TheImpl.{ghosts as compares}
use Rattle.lin_solve.proofs.Alike.{laws_of_equality, alike}
use Rattle.lin_solve.proofs.Once.{kept_hold}

pub agree : (n : ℕ) (c : Compare) (us vs : List ℤ) → AgreeBelow n us vs → CompareFits n c → compare_holds (plain_compare c) us ≡ compare_holds (plain_compare c) vs
agree n c us vs a fits =
    λ i. related (plain_relation c.relation) (value_agree n c.left us vs a fits.0 i) (value_agree n c.right us vs a fits.1 i)

module _ (n : ℕ) (few : n ≤ 8) (ls : List (Lit Compare)) (fit : LitsFit (CompareFits n) ls) where
  satisfies : (us ns : List ℤ) → AgreeBelow n us ns → HoldsAll (plain_literals ls) us → SatisfiesAll compare_at ls (wholes_label ns)
  satisfies us ns a h =
      λ k d l. let x = get_or ls k d in
      let at : compare_holds (plain_compare x.atom) us ≡ x.sign = subst (λ (y : Literal). compare_holds y.compare us ≡ y.positive) (get_or-map plain_literal ls k d (plain_literal d) l) (h k (plain_literal d) (omega (arith, length-map ls plain_literal, l))) in
      ap (compare_holds (plain_compare x.atom)) (wholes_back ns) ∙ sym (agree n x.atom us ns a (fit k d l)) ∙ at

  hold : (us ns : List ℤ) → AgreeBelow n ns us → SatisfiesAll compare_at ls (wholes_label ns) → HoldsAll (plain_literals ls) us
  hold us ns a s =
      All-map (λ (y : Literal). compare_holds y.compare us ≡ y.positive) plain_literal ls (λ k d l. let x = get_or ls k d in
      sym (agree n x.atom ns us a (fit k d l)) ∙ sym (ap (compare_holds (plain_compare x.atom)) (wholes_back ns)) ∙ s k d l)

  -- the values and zeros after them
  abbrev padded : List ℤ → List ℤ
  padded ns = ns ++ replicate (8 - n) (pos 0)

  eight : (ns : List ℤ) → length ns ≡ n → length (padded ns) ≡ 8
  eight ns many = length-append ns (replicate (8 - n) (pos 0)) ∙ omega (arith, many, few, length-replicate (8 - n) (pos 0))

  agree_padded : (ns : List ℤ) → length ns ≡ n → AgreeBelow n ns (padded ns)
  agree_padded ns many k l = sym (get_or_append_left ns (replicate (8 - n) (pos 0)) (pos 0) k (omega (arith, many, l)))

  pub first_satisfies : (us vs : List ℤ) → length us ≡ 8 → HoldsAll (plain_literals ls) us → vs ≡ take n us → AllKept vs → KeepsWholes n (wholes_label vs) × SatisfiesAll compare_at ls (wholes_label vs)
  first_satisfies us vs many h is kept =
      ((vs, ap length is ∙ length-take-le n us (omega (arith, many, few)), kept, refl), satisfies us vs (λ k l. sym (get_or-take n us k (pos 0) l) ∙ ap (λ ws. get_or ws k (pos 0)) (sym is)) h)

  pub none_satisfies : ((us : List ℤ) → length us ≡ 8 → HoldsAll (plain_literals ls) us → ⊥) → (l : Label) → IsWholes n l → ¬ (SatisfiesAll compare_at ls l)
  none_satisfies none l (ns, many, is) s = none (padded ns) (eight ns many) (hold (padded ns) ns (agree_padded ns many) (subst (SatisfiesAll compare_at ls) is s))

  kept_none : ((us : List ℤ) → length us ≡ 8 → AllKept us → HoldsAll (plain_literals ls) us → ⊥) → (l : Label) → KeepsWholes n l → ¬ (SatisfiesAll compare_at ls l)
  kept_none none l (ns, many, kept, is) s =
      none (padded ns) (eight ns many) (All-append (FitsSigned w64) ns (replicate (8 - n) (pos 0)) kept (All-replicate (FitsSigned w64) (8 - n) (pos 0) (fits_signed_from_abs w64 (pos 0) (omega arith)))) (hold (padded ns) ns (agree_padded ns many) (subst (SatisfiesAll compare_at ls) is s))

  some_satisfies : (us : List ℤ) × (length us ≡ 8) × HoldsAll (plain_literals ls) us × HasFarValue us → (l : Label) × IsWholes n l × SatisfiesAll compare_at ls l
  some_satisfies (us, many, h, out) =
      (wholes_label (take n us), (take n us, length-take-le n us (omega (arith, many, few)), refl), satisfies us (take n us) (λ k l. sym (get_or-take n us k (pos 0) l)) h)

  pub wide_shown : (c : Chain) → AreLiteralsOver 8 (plain_literals c.literals.items) → Answers {V = List ℤ} (AreKept compares.eq ls) (λ us. us) ls (Wide c)
      → (AreSome compares.eq ls c.literals.items × PassesWidth c) × (IsFar (plain_chain c) → ((l : Label) × IsWholes n l × SatisfiesAll compare_at ls l) × ((l : Label) → KeepsWholes n l → ¬ (SatisfiesAll compare_at ls l)))
  wide_shown c over (kept, passes, none) = (
    ((kept.among, kept.once), passes),
    λ far. (some_satisfies (for_all (far_has_values (plain_chain c) over far)), kept_none (none far)),
  )
    where
      for_all : (us : List ℤ) × (length us ≡ 8) × HoldsAll (plain_literals c.literals.items) us × HasFarValue us → (us : List ℤ) × (length us ≡ 8) × HoldsAll (plain_literals ls) us × HasFarValue us
      for_all (us, many, h, out) = (us, many, (kept_hold compares.eq laws_of_equality alike ls c.literals.items kept us).0 h, out)
