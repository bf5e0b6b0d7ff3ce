-- The names in the expressions of an item are declared.
use Rattle.std.proofs.Common.{◌≡◌, inl, inr, ℕ, zero, suc, true, List, [], ◌∷◌, Option, None, Contains, refl, ap, subst, arith}
use Rattle.model_grammar.specs.Syntax.{X, Claim, equal, member, empty, type_check, TreeItem, tree, DefItem, def, AssertItem, assertion, Item}
use Rattle.model_names.specs.Kinds.{Kind, language, transformation, a_tree, defined_kind, declared_type}
use Rattle.model_checks.specs.Failures.{is_empty}
use Rattle.model_checks.specs.Rules.{type_name_failures}
use Rattle.model_checks.specs.Expressions.{expected_as, type_as, output_as, needs_be, x_failures, whole_failures}
use Rattle.model_checks.specs.Programs.{name_again, claim_failures, body_failures}
use Rattle.model_checks.specs.Sound.{IsSound, StandsIn}
use Rattle.model_checks.proofs.Soundness.{empty_first, empty_second}
use Rattle.model_meaning.proofs.Members.{one_of, none_of}
use Rattle.fast_compose.specs.Composed.{stated, AreNamesDeclared}
use Rattle.fast_compose.proofs.Named.{declared_in, def_whole}

-- an item of a program stands in it
pub stands_there : (items : List Item) (item : Item) → Contains items item → StandsIn items item
stands_there [] item at = absurd (none_of item at)
stands_there (x ∷ items) item (zero, low, is) = record { before = []; behind = items; is = ap (λ z. z ∷ items) is }
stands_there (x ∷ items) item (suc k, low, is) =
    let s = stands_there items item (k, omega (arith, low), is) in
    record { before = x ∷ s.before; behind = s.behind; is = ap (λ zs. x ∷ zs) s.is }

module _ (items : List Item) (whole : IsSound items) where
  by_whole : (before : List Item) (type : Option (List ℕ)) (kind : Kind) (e : X) → is_empty (whole_failures items before type kind e) ≡ true → AreNamesDeclared items e
  by_whole before type kind e all n at =
      declared_in items whole before 0 (expected_as kind type) e (empty_first (x_failures items before 0 (expected_as kind type) e) (needs_be items before type kind e) all) n at

  pub tree_declared : (item : Item) (at : StandsIn items item) (t : TreeItem) → item.body ≡ tree t → AreNamesDeclared items t.value
  tree_declared item at t is =
      let all = subst (λ b. is_empty (body_failures items at.before b) ≡ true) is (whole.each item at) in
      by_whole at.before (declared_type items t.of) a_tree t.value (empty_second (type_name_failures items t.of) _ (empty_second (name_again items at.before t.name) _ all))

  pub def_declared : (item : Item) (at : StandsIn items item) (d : DefItem) → item.body ≡ def d → AreNamesDeclared items d.value
  def_declared item at d is = by_whole at.before (declared_type items d.from) (defined_kind d.into) d.value (def_whole items whole item at d is)

  in_one : (P : X → Type 0) (e z : X) → P e → Contains (e ∷ []) z → P z
  in_one P e z holds at = elim (one_of e z [] at) [ inl same ↦ subst P same holds | inr none ↦ absurd (none_of z none) ]

  in_more : (P : X → Type 0) (e z : X) (es : List X) → P e → (Contains es z → P z) → Contains (e ∷ es) z → P z
  in_more P e z es holds rest at = elim (one_of e z es at) [ inl same ↦ subst P same holds | inr later ↦ rest later ]

  by_claim : (before : List Item) (k : Claim) → is_empty (claim_failures items before k) ≡ true → (z : X) → Contains (stated k) z → AreNamesDeclared items z
  by_claim before (equal e f) all z =
      let first = whole_failures items before None language e in
      in_more (AreNamesDeclared items) e z (f ∷ []) (by_whole before None language e (empty_first first _ all))
      (in_one (AreNamesDeclared items) f z (by_whole before (type_as items before language e) language f (empty_second first _ all)))
  by_claim before (member e f) all z =
      let second = whole_failures items before None language f in
      in_more (AreNamesDeclared items) e z (f ∷ []) (by_whole before (type_as items before language f) a_tree e (empty_second second _ all))
      (in_one (AreNamesDeclared items) f z (by_whole before None language f (empty_first second _ all)))
  by_claim before (empty e) all z = in_one (AreNamesDeclared items) e z (declared_in items whole before 0 None e (empty_first (x_failures items before 0 None e) _ all))
  by_claim before (type_check e f g) all z =
      let first = whole_failures items before None language e in
      let second = whole_failures items before (type_as items before language e) transformation f in
      let rest = empty_second first _ all in
      in_more (AreNamesDeclared items) e z (f ∷ g ∷ []) (by_whole before None language e (empty_first first _ all))
      (in_more (AreNamesDeclared items) f z (g ∷ []) (by_whole before (type_as items before language e) transformation f (empty_first second _ rest))
      (in_one (AreNamesDeclared items) g z (by_whole before (output_as items before transformation f) language g (empty_second second _ rest))))

  pub claim_declared : (item : Item) (at : StandsIn items item) (a : AssertItem) → item.body ≡ assertion a → (z : X) → Contains (stated a.claim) z → AreNamesDeclared items z
  claim_declared item at a is z there = by_claim at.before a.claim (subst (λ b. is_empty (body_failures items at.before b) ≡ true) is (whole.each item at)) z there

-- what holds of each expression of a statement
pub of_two : (P : X → Type 0) (e f : X) → P e → P f → (z : X) → Contains (e ∷ f ∷ []) z → P z
of_two P e f first second z at = elim (one_of e z (f ∷ []) at) [
  | inl same ↦ subst P same first
  | inr later ↦ elim (one_of f z [] later) [ inl same ↦ subst P same second | inr none ↦ absurd (none_of z none) ]
]

pub of_one : (P : X → Type 0) (e : X) → P e → (z : X) → Contains (e ∷ []) z → P z
of_one P e holds z at = elim (one_of e z [] at) [ inl same ↦ subst P same holds | inr none ↦ absurd (none_of z none) ]

pub of_three : (P : X → Type 0) (e f g : X) → P e → P f → P g → (z : X) → Contains (e ∷ f ∷ g ∷ []) z → P z
of_three P e f g first second third z at = elim (one_of e z (f ∷ g ∷ []) at) [ inl same ↦ subst P same first | inr later ↦ of_two P f g second third z later ]

-- of the second and of the third of three
pub second_stated : (P : X → Type 0) (e f g : X) → P f → (z : X) × Contains (e ∷ f ∷ g ∷ []) z × P z
second_stated P e f g holds = (f, (1, omega arith, refl), holds)

pub third_stated : (P : X → Type 0) (e f g : X) → P g → (z : X) × Contains (e ∷ f ∷ g ∷ []) z × P z
third_stated P e f g holds = (g, (2, omega arith, refl), holds)
