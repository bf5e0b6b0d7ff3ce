-- The first of the rules that use a child twice.
use Rattle.std.proofs.Common.{◌≡◌, ◌⊎◌, inl, inr, ℕ, ◌<◌, ◌+◌, Bool, true, false, cond, List, Option, Some, None, Contains, refl, sym, subst, ◌∙◌, arith}
use Rattle.std.specs.Prelude.{nat_lt, is_some, MatchOption}
use Rattle.std.proofs.lemmas.Option.{slice_get_within, get_or_from_slice_get}
use Rattle.std.proofs.lemmas.Bool.Decides.{nat_tests}
use Rattle.fast_fault.specs.declared.place.Pos.{Pos}
use Rattle.model_grammar.specs.Syntax.{X, OutRule, Item}
use Rattle.model_names.specs.Declared.{find_item, out_rules_of}
use Rattle.model_meaning.specs.Reached.{Reaches}
use Rattle.model_run.specs.Plain.{ReachesSome, Copies, IsLinear, is_before}
use Rattle.model_run.specs.Causes.{IsFirstCopying}
use Rattle.model_checks.specs.Sound.{IsSound}
use Rattle.fast_compose.specs.declared.copying.Placed.{Placed}
use Rattle.fast_compose.specs.Copying.{earlier_of, IsFirst}
use Rattle.fast_compose.specs.Sources.{IsSource, AreSources}
use Rattle.sttr_core.specs.Machine.{OutMachine}
use Rattle.record_label.specs.Rows.{RowAtom}
use Rattle.record_label.specs.declared.maps.RowMap.{RowMap}
use Rattle.fast_build.specs.Transducer.{IsTransducerOf}
use Rattle.fast_build.specs.Transformations.{find_trans}
use Rattle.fast_build.proofs.CalledFacts.{kind_there}
use Rattle.fast_build.proofs.Transforming.{found_trans}
use Rattle.fast_compose.proofs.Named.{some_source, reached_by_source, no_outs, outs_trans}
use Rattle.std.proofs.lemmas.List.Elements.{All-contains}

-- ---- places

before_through : (p q r : Pos) → is_before p q ≡ true → is_before q r ≡ true → is_before p r ≡ true
before_through p q r e f = grind (arith, nat_tests)

before_either : (p q r : Pos) → is_before p r ≡ true → is_before p q ≡ false → is_before q r ≡ false → ⊥
before_either p q r e f g = grind (arith, nat_tests)

not_before : (p q r : Pos) → is_before p q ≡ false → is_before q r ≡ false → is_before p r ≡ false
not_before p q r f g = by (is_before p r) refl
  where
    by : (b : Bool) → is_before p r ≡ b → b ≡ false
    by true e = absurd (before_either p q r e f g)
    by false e = refl

-- what isn't before a place isn't before one that is before it
not_before_first : (p q r : Pos) → is_before p r ≡ false → is_before q r ≡ true → is_before p q ≡ false
not_before_first p q r f g = by (is_before p q) refl
  where
    by : (b : Bool) → is_before p q ≡ b → b ≡ false
    by true e = let bad : true ≡ false = sym (before_through p q r e g) ∙ f in absurd (cc)
    by false e = refl

module _ (items : List Item) where
  -- ---- of more rules

  module _ (C D E : List ℕ → ℕ → Type 0) (left : (q : List ℕ) (i : ℕ) → C q i → E q i) (right : (q : List ℕ) (i : ℕ) → D q i → E q i) (either : (q : List ℕ) (i : ℕ) → E q i → C q i ⊎ D q i) where
    pub first_of_both : (a b : Option Placed) → IsFirst items C a → IsFirst items D b → IsFirst items E (earlier_of a b)
    first_of_both None None none also = λ q i r in_e copies. elim (either q i in_e) [ inl c ↦ none q i r c copies | inr d ↦ also q i r d copies ]
    first_of_both (Some p) None (r, in_c, copies, place, least) none = (r, left p.copying.name p.copying.rule in_c, copies, place, λ q i s in_e its. elim (either q i in_e) [ inl c ↦ least q i s c its | inr d ↦ absurd (none q i s d its) ])
    first_of_both None (Some p) none (r, in_d, copies, place, least) = (r, right p.copying.name p.copying.rule in_d, copies, place, λ q i s in_e its. elim (either q i in_e) [ inl c ↦ absurd (none q i s c its) | inr d ↦ least q i s d its ])
    first_of_both (Some p) (Some o) (r, in_c, copies, place, least) (r2, in_d, copies2, place2, least2) = by (is_before o.place p.place) refl
      where
        by : (b : Bool) → is_before o.place p.place ≡ b → IsFirst items E (cond b (Some o) (Some p))
        by true before = (
          r2,
          right o.copying.name o.copying.rule in_d,
          copies2,
          place2,
          λ q i s in_e its. elim (either q i in_e) [
            | inl c ↦ not_before_first s.rule.ctor.place o.place p.place (least q i s c its) before
            | inr d ↦ least2 q i s d its
          ],
        )
        by false before = (
          r,
          left p.copying.name p.copying.rule in_c,
          copies,
          place,
          λ q i s in_e its. elim (either q i in_e) [
            | inl c ↦ least q i s c its
            | inr d ↦ not_before s.rule.ctor.place o.place p.place (least2 q i s d its) before
          ],
        )

  -- ---- of the same rules, as far as they copy

  module _ (C D : List ℕ → ℕ → Type 0) (to : (q : List ℕ) (i : ℕ) → C q i → D q i) (back : (q : List ℕ) (i : ℕ) (r : OutRule) → D q i → Copies items q i r → C q i) where
    pub first_as : (a : Option Placed) → IsFirst items C a → IsFirst items D a
    first_as None none = λ q i r in_d copies. none q i r (back q i r in_d copies) copies
    first_as (Some p) (r, in_c, copies, place, least) = (r, to p.copying.name p.copying.rule in_c, copies, place, λ q i s in_d its. least q i s (back q i s in_d its) its)

  -- ---- what the first one of a transformation's sources shows

  module _ (whole : IsSound items) (y : X) (names : List (List ℕ)) (are : AreSources items y names) where
    abbrev pub OfSources : List ℕ → ℕ → Type 0
    OfSources q i = (n : List ℕ) × Contains names n × Reaches items n q

    pub linear_by_none : IsFirst items OfSources None → IsLinear items y
    linear_by_none none reached =
        let (n, at, q, reach, (i, r, copies)) = some_source items whole (λ q. (i : ℕ) × (r : OutRule) × Copies items q i r) y names are reached in
        none q i r (n, at, reach) copies

    pub first_shown : (p : Placed) → IsFirst items OfSources (Some p) → IsFirstCopying items y p.copying.name p.copying.rule
    first_shown p (r, (n, at, reach), copies, place, least) = (
      r,
      reached_by_source items (λ q. (q ≡ p.copying.name) × Copies items q p.copying.rule r) y n p.copying.name (All-contains (IsSource items y) names n are.only at) reach (refl, copies),
      λ i s reached. (let (m, there, q, its, own) = some_source items whole (λ q. Copies items q i s) y names are reached in
          subst (λ at. is_before s.rule.ctor.place at ≡ false) place (least q i s (m, there, its) own)),
    )

    pub copying_shown : (p : Placed) → IsFirst items OfSources (Some p) → ReachesSome items (λ q. (i : ℕ) × (r : OutRule) × Copies items q i r) y
    copying_shown p (r, (n, at, reach), copies, place, least) = reached_by_source items (λ q. (i : ℕ) × (r : OutRule) × Copies items q i r) y n p.copying.name (All-contains (IsSource items y) names n are.only at) reach (p.copying.rule, r, copies)

  -- ---- what a name reaches

  module _ (whole : IsSound items) (name : List ℕ) where
    pub none_copies : find_trans items name ≡ None → IsFirst items (λ q i. Reaches items name q) None
    none_copies none = λ q i r reached copies. no_outs items whole name q r none reached (rule_there q i r copies)
      where
        rule_there : (q : List ℕ) (i : ℕ) (r : OutRule) → Copies items q i r → Contains (out_rules_of items q) r
        rule_there q i r copies = (i, slice_get_within (out_rules_of items q) i r copies.0, get_or_from_slice_get (out_rules_of items q) i r r copies.0)

    pub first_of_names : (names : List (List ℕ)) (d : OutMachine RowAtom RowMap) → IsTransducerOf items name names d → (a : Option Placed) → IsFirst items (λ q i. Contains names q) a → IsFirst items (λ q i. Reaches items name q) a
    first_of_names names d is a first = first_as (λ q i. Contains names q) (λ q i. Reaches items name q) (λ q i at. All-contains (Reaches items name) names q is.reached at) back a first
      where
        back : (q : List ℕ) (i : ℕ) (r : OutRule) → Reaches items name q → Copies items q i r → Contains names q
        back q i r reached copies =
            let at : Contains (out_rules_of items q) r = (i, slice_get_within (out_rules_of items q) i r copies.0, get_or_from_slice_get (out_rules_of items q) i r r copies.0) in
            let (from, into, t) = outs_trans items whole q r (find_item items q) refl at in
            is.all q reached (kind_there items q t.own (found_trans items q from into t))

-- a number below the next one
pub below_more : (P : Type 0) (i k : ℕ) → P → i < k + 1 → (P × (i < k)) ⊎ (P × (i ≡ k))
below_more P i k p low = by (nat_lt i k) refl
  where
    by : (b : Bool) → nat_lt i k ≡ b → (P × (i < k)) ⊎ (P × (i ≡ k))
    by true e = inl (p, grind (arith, nat_tests))
    by false e = inr (p, grind (arith, nat_tests))

-- nothing is found
pub trans_none : {A : Type 0} (o : Option A) (P : Type 0) (Q : A → Type 0) → is_some o ≡ false → MatchOption o P Q → P
trans_none None P Q e m = m
trans_none (Some x) P Q e m = absurd (cc)
