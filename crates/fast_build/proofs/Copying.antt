-- Rules that use a child twice, as they are written.
use Rattle.std.proofs.Common.{◌≡◌, ◌⊎◌, inl, inr, ℕ, zero, suc, ◌+◌, ◌<◌, ◌==◌, Bool, true, false, cond, List, [], ◌∷◌, Some, None, map, length, get_or, Contains, refl, sym, ap, subst, ◌∙◌, arith}
use Rattle.std.specs.Prelude.{not, slice_get}
use Rattle.std.specs.List.{position_or_len}
use Rattle.std.proofs.lemmas.List.{get_or-map}
use Rattle.model_tree.specs.Signature.{PlainSignature}
use Rattle.model_program.specs.Syntax.{Name}
use Rattle.model_grammar.specs.Syntax.{X, Out, child, call, node, Outs, no_out, and_out, named, OutRule, TransItem, Item}
use Rattle.model_names.specs.Declared.{same_text, own_out_rules, out_rules_of}
use Rattle.model_checks.specs.Programs.{is_well_formed}
use Rattle.model_checks.proofs.SoundWhole.{sound}
use Rattle.model_meaning.specs.Types.{input_of, output_of}
use Rattle.model_meaning.specs.Reached.{Reaches, Opens}
use Rattle.model_run.specs.Plain.{Names, NamesInOne, NamesTwice, NamesTwiceIn, ReachesSome, at_name, at_opened, of_first, of_second, of_restricted, of_out_restricted, Copies, IsLinear}
use Rattle.meaning_laws.proofs.Reaching.{outs_there, reached_by_trans, lang_no_value, trans_no_value}
use Rattle.model_sta.specs.Pairwise.{Pairwise}
use Rattle.model_sttr.specs.Terms.{Term, on, build, Parts, no_parts, part}
use Rattle.model_sttr.specs.Terms as terms
use Rattle.model_sttr.specs.Transducer.{Head, identity, run}
use Rattle.sttr_core.specs.Machine.{OutMachine}
use Rattle.sttr_core.specs.Uses.{use_count, uses_in}
use Rattle.sttr_core.specs.Linear.{AreLinear, IsFirstCopying}
use Rattle.sttr_core.proofs.Uses.{counted_here, here_if_counted, either}
use Rattle.sttr_core.proofs.Linearity.{uses_few}
use Rattle.sttr_core.proofs.Meaning.{of_place}
use Rattle.record_label.specs.Rows.{RowAtom}
use Rattle.record_label.specs.declared.maps.RowMap.{RowMap}
use Rattle.fast_build.specs.Numbers.{number_in}
use Rattle.fast_build.specs.Terms.{IsChild, IsTermFor, AreTermsFor}
use Rattle.fast_build.specs.OutRules.{IsOutRuleFor, AreOutRulesFor}
use Rattle.fast_build.specs.Transformations.{find_trans}
use Rattle.fast_build.specs.Transducer.{IsTransducerOf}
use Rattle.fast_build.proofs.Naming.{same_from_test, numbered_below, named_by_number}
use Rattle.fast_build.proofs.CalledFacts.{kind_there}
use Rattle.fast_build.proofs.Transforming.{trans_from, found_trans}
use Rattle.fast_build.proofs.Paired.{paired_at}

-- ---- children by their variables

text_by : (b : Bool) (v : Name) (vars : List Name) (y : List ℕ) (p : ℕ) → same_text v.text y ≡ b → cond (not b) (1 + p) 0 < suc (length vars) → (p < length vars → get_or (map (λ (w : Name). w.text) vars) p [] ≡ y)
    → get_or (v.text ∷ map (λ (w : Name). w.text) vars) (cond (not b) (1 + p) 0) [] ≡ y
text_by true v vars y p same low later = same_from_test v.text y same
text_by false v vars y p same low later = let more : 1 + p ≡ suc p = omega arith in ap (λ n. get_or (v.text ∷ map (λ (w : Name). w.text) vars) n []) more ∙ later (omega arith)

text_at : (vars : List Name) (y : List ℕ) → position_or_len (λ v. same_text v.text y) vars < length vars → get_or (map (λ (w : Name). w.text) vars) (position_or_len (λ v. same_text v.text y) vars) [] ≡ y
text_at [] y low = absurd (omega arith)
text_at (v ∷ vars) y low = text_by (same_text v.text y) v vars y (position_or_len (λ w. same_text w.text y) vars) refl low (λ l. text_at vars y l)

-- the variable of a child's number
abbrev variable : List Name → ℕ → List ℕ
variable vars j = get_or (map (λ (w : Name). w.text) vars) j []

abbrev number : List Name → List ℕ → ℕ
number vars v = position_or_len (λ w. same_text w.text v) vars

variable_is : (vars : List Name) (y : List ℕ) (j : ℕ) → IsChild vars y j → variable vars j ≡ y
variable_is vars y j is = ap (variable vars) is.is ∙ text_at vars y (subst (λ n. n < length vars) is.is is.below)

used_names : (vars : List Name) (y : List ℕ) (i j : ℕ) → IsChild vars y i → 0 < cond (i == j) 1 0 → y ≡ variable vars j
used_names vars y i j is used = sym (variable_is vars y i is) ∙ ap (variable vars) (here_if_counted i j used)

named_counts : (vars : List Name) (y v : List ℕ) (i : ℕ) → IsChild vars y i → y ≡ v → 0 < cond (i == number vars v) 1 0
named_counts vars y v i is e = let one = counted_here i (number vars v) (is.is ∙ ap (number vars) e) in omega arith

never_twice : (i j : ℕ) → 1 < cond (i == j) 1 0 → ⊥
never_twice i j h = by (i == j) h
  where
    by : (b : Bool) → 1 < cond b 1 0 → ⊥
    by true h = omega arith
    by false h = omega arith

one_of_two : (a b : ℕ) → 1 < a + b → (1 < a) ⊎ ((0 < a) × (0 < b)) ⊎ (1 < b)
one_of_two zero b h = inr (inr (omega arith))
one_of_two (suc zero) zero h = absurd (omega arith)
one_of_two (suc zero) (suc b) h = inr (inl (omega arith, omega arith))
one_of_two (suc (suc a)) b h = inl (omega arith)

-- ---- terms

module _ (s t : PlainSignature) (place : List ℕ → ℕ) (vars : List Name) where
  mutual
    names : (out : Out) (p : Term Head RowMap) (j : ℕ) → IsTermFor s t place vars out p → 0 < use_count j p → Names out (variable vars j)
    names (child y) (on identity i) j is used = used_names vars y.text i j is used
    names (child y) (on (run q) i) j is used = absurd is
    names (child y) (build c m ps) j is used = absurd is
    names (call n y) (on identity i) j is used = absurd is
    names (call n y) (on (run q) i) j is used = used_names vars y.text i j is.1 used
    names (call n y) (build c m ps) j is used = absurd is
    names (node name labels outs) (on h i) j is used = absurd is
    names (node name labels outs) (build c m ps) j is used = names_in outs ps j is.2 used

    names_in : (outs : Outs) (ps : Parts Head RowMap) (j : ℕ) → AreTermsFor s t place vars outs ps → 0 < uses_in j ps → NamesInOne outs (variable vars j)
    names_in no_out no_parts j are used = omega arith
    names_in no_out (part p ps) j are used = absurd are
    names_in (and_out out outs) no_parts j are used = absurd are
    names_in (and_out out outs) (part p ps) j are used =
        elim (either (use_count j p) (uses_in j ps) used) as (λ _. NamesInOne (and_out out outs) (variable vars j)) [ inl h ↦ inl (names out p j are.0 h) | inr h ↦ inr (names_in outs ps j are.1 h) ]

  mutual
    -- a child that is used twice is named twice
    pub names_twice : (out : Out) (p : Term Head RowMap) (j : ℕ) → IsTermFor s t place vars out p → 1 < use_count j p → NamesTwice out (variable vars j)
    names_twice (child y) (on h i) j is used = never_twice i j used
    names_twice (child y) (build c m ps) j is used = absurd is
    names_twice (call n y) (on h i) j is used = never_twice i j used
    names_twice (call n y) (build c m ps) j is used = absurd is
    names_twice (node name labels outs) (on h i) j is used = absurd is
    names_twice (node name labels outs) (build c m ps) j is used = names_twice_in outs ps j is.2 used

    names_twice_in : (outs : Outs) (ps : Parts Head RowMap) (j : ℕ) → AreTermsFor s t place vars outs ps → 1 < uses_in j ps → NamesTwiceIn outs (variable vars j)
    names_twice_in no_out no_parts j are used = omega arith
    names_twice_in no_out (part p ps) j are used = absurd are
    names_twice_in (and_out out outs) no_parts j are used = absurd are
    names_twice_in (and_out out outs) (part p ps) j are used = elim (one_of_two (use_count j p) (uses_in j ps) used) as (λ _. NamesTwiceIn (and_out out outs) (variable vars j)) [
      | inl h ↦ inl (names_twice out p j are.0 h)
      | inr h ↦ (elim h as (λ _. NamesTwiceIn (and_out out outs) (variable vars j)) [ inl both ↦ inr (inl (names out p j are.0 both.0, names_in outs ps j are.1 both.1)) | inr k ↦ inr (inr (names_twice_in outs ps j are.1 k)) ])
    ]

  mutual
    counts : (out : Out) (p : Term Head RowMap) (v : List ℕ) → IsTermFor s t place vars out p → Names out v → 0 < use_count (number vars v) p
    counts (child y) (on identity i) v is says = named_counts vars y.text v i is says
    counts (child y) (on (run q) i) v is says = absurd is
    counts (child y) (build c m ps) v is says = absurd is
    counts (call n y) (on identity i) v is says = absurd is
    counts (call n y) (on (run q) i) v is says = named_counts vars y.text v i is.1 says
    counts (call n y) (build c m ps) v is says = absurd is
    counts (node name labels outs) (on h i) v is says = absurd is
    counts (node name labels outs) (build c m ps) v is says = counts_in outs ps v is.2 says

    counts_in : (outs : Outs) (ps : Parts Head RowMap) (v : List ℕ) → AreTermsFor s t place vars outs ps → NamesInOne outs v → 0 < uses_in (number vars v) ps
    counts_in no_out no_parts v are says = absurd says
    counts_in no_out (part p ps) v are says = absurd are
    counts_in (and_out out outs) no_parts v are says = absurd are
    counts_in (and_out out outs) (part p ps) v are (inl says) = let first = counts out p v are.0 says in omega arith
    counts_in (and_out out outs) (part p ps) v are (inr says) = let rest = counts_in outs ps v are.1 says in omega arith

  mutual
    -- and the other way round
    pub counts_twice : (out : Out) (p : Term Head RowMap) (v : List ℕ) → IsTermFor s t place vars out p → NamesTwice out v → 1 < use_count (number vars v) p
    counts_twice (child y) p v is says = absurd says
    counts_twice (call n y) p v is says = absurd says
    counts_twice (node name labels outs) (on h i) v is says = absurd is
    counts_twice (node name labels outs) (build c m ps) v is says = counts_twice_in outs ps v is.2 says

    counts_twice_in : (outs : Outs) (ps : Parts Head RowMap) (v : List ℕ) → AreTermsFor s t place vars outs ps → NamesTwiceIn outs v → 1 < uses_in (number vars v) ps
    counts_twice_in no_out no_parts v are says = absurd says
    counts_twice_in no_out (part p ps) v are says = absurd are
    counts_twice_in (and_out out outs) no_parts v are says = absurd are
    counts_twice_in (and_out out outs) (part p ps) v are (inl says) = let first = counts_twice out p v are.0 says in omega arith
    counts_twice_in (and_out out outs) (part p ps) v are (inr (inl says)) = let first = counts out p v are.0 says.0 in let rest = counts_in outs ps v are.1 says.1 in omega arith
    counts_twice_in (and_out out outs) (part p ps) v are (inr (inr says)) = let rest = counts_twice_in outs ps v are.1 says in omega arith

-- ---- rules

some_value : {A : Type 0} {x y : A} → Some x ≡ Some y → x ≡ y
some_value e = cc

none_there : {A B : Type 0} (x : A) → None ≡ Some x → B
none_there x e = cc

pair_at : {X Y : Type 0} (R : X → Y → Type 0) (xs : List X) (ys : List Y) (i : ℕ) (x : X) → Pairwise R xs ys → slice_get xs i ≡ Some x → (y : Y) × (slice_get ys i ≡ Some y) × R x y
pair_at R [] ys i x are at = none_there x at
pair_at R (z ∷ xs) [] i x are at = absurd are
pair_at R (z ∷ xs) (y ∷ ys) zero x are at = (y, refl, subst (λ w. R w y) (some_value at) are.0)
pair_at R (z ∷ xs) (y ∷ ys) (suc i) x are at = pair_at R xs ys i x are.1 at

pair_from : {X Y : Type 0} (R : X → Y → Type 0) (xs : List X) (ys : List Y) (i : ℕ) (y : Y) → Pairwise R xs ys → slice_get ys i ≡ Some y → (x : X) × Contains xs x × R x y
pair_from R xs [] i y are at = none_there y at
pair_from R [] (z ∷ ys) i y are at = absurd are
pair_from R (x ∷ xs) (z ∷ ys) zero y are at = (x, (zero, omega arith, refl), subst (R x) (some_value at) are.0)
pair_from R (x ∷ xs) (z ∷ ys) (suc i) y are at = let (w, (k, low, is), r) = pair_from R xs ys i y are.1 at in (w, (suc k, omega (arith, low), is), r)

module _ (items : List Item) (well : is_well_formed items ≡ true) (n : Name) (t : TransItem) (found : find_trans items n.text ≡ Some t) (names : List (List ℕ)) (d : OutMachine RowAtom RowMap) (is : IsTransducerOf items n.text names d) where
  rules_at : (k : ℕ) → k < length names → AreOutRulesFor (input_of items n.text) (output_of items n.text) (number_in is.looked) (number_in names) (get_or d.rules k []) (out_rules_of items (get_or names k []))
  rules_at k low =
      subst (AreOutRulesFor (input_of items n.text) (output_of items n.text) (number_in is.looked) (number_in names) (get_or d.rules k [])) (get_or-map (out_rules_of items) names k [] [] low)
      (paired_at (IsOutRuleFor (input_of items n.text) (output_of items n.text) (number_in is.looked) (number_in names)) d.rules (map (out_rules_of items) names) k is.rules)

  -- the first rule that uses a child twice is written so
  pub copying_rule : (state place : ℕ) → state < length names → IsFirstCopying d state place → (r : OutRule) × Copies items (get_or names state []) place r
  copying_rule state place low first =
      let (r, at, own) = pair_at (IsOutRuleFor (input_of items n.text) (output_of items n.text) (number_in is.looked) (number_in names)) (get_or d.rules state []) (out_rules_of items (get_or names state [])) place first.here.rule (rules_at state low) first.here.is in
      let (j, twice) = first.here.twice in
      (r, (at, (variable r.rule.vars j, names_twice (input_of items n.text) (output_of items n.text) (number_in names) r.rule.vars r.out first.here.rule.term j own.term twice)))

  no_copies : AreLinear d → (q : List ℕ) → Reaches items n.text q → (i : ℕ) (r : OutRule) → Copies items q i r → ⊥
  no_copies linear q reach i r (at, (v, twice)) = elim (reached_by_trans items (sound items well) n.text t.from.text t.into.text q (trans_from items n.text t found) reach) [
    | inl l ↦ (let none = outs_there items (sound items well) q l.item l.found ∙ ap own_out_rules l.is in none_there r (ap (λ rs. slice_get rs i) (sym none) ∙ at))
    | inr f ↦ (
        let among = is.all q reach (kind_there items q f.own (found_trans items q t.from.text t.into.text f)) in
        let k = number_in names q in
        let here = named_by_number names q among in
        let (x, there, own) = pair_from (IsOutRuleFor (input_of items n.text) (output_of items n.text) (number_in is.looked) (number_in names)) (get_or d.rules k []) (out_rules_of items (get_or names k [])) i r (rules_at k (numbered_below names q among)) (ap (λ m. slice_get (out_rules_of items m) i) here ∙ at) in
        let lin = of_place (λ y. terms.IsLinear y.term) d.rules k x linear there in
        let few = uses_few x.term lin (number r.rule.vars v) in
        let many = counts_twice (input_of items n.text) (output_of items n.text) (number_in names) r.rule.vars r.out x.term v own.term twice in omega (arith, few, many))
  ]

  opens_none : {A : Type 0} (x : X) → Opens items n.text x → A
  opens_none x opens = elim (reached_by_trans items (sound items well) n.text t.from.text t.into.text opens.definition (trans_from items n.text t found) opens.reached) [
    | inl l ↦ absurd (lang_no_value items (sound items well) opens.definition t.from.text x l opens.is)
    | inr f ↦ absurd (trans_no_value items (sound items well) opens.definition t.from.text t.into.text x f opens.is)
  ]

  same_text_of : (m : Name) → named m ≡ named n → m.text ≡ n.text
  same_text_of m e = let same : m ≡ n = cc in ap (λ (x : Name). x.text) same

  none_copies : AreLinear d → (x : X) → ReachesSome items (λ q. (i : ℕ) × (r : OutRule) × Copies items q i r) x → x ≡ named n → ⊥
  none_copies linear _ (at_name m q reach (i, r, c)) e = no_copies linear q (subst (λ k. Reaches items k q) (same_text_of m e) reach) i r c
  none_copies linear _ (at_opened m x opens some) e = opens_none x (subst (λ k. Opens items k x) (same_text_of m e) opens)
  none_copies linear _ (of_first place x y some) e = cc
  none_copies linear _ (of_second place x y some) e = cc
  none_copies linear _ (of_restricted place x y some) e = cc
  none_copies linear _ (of_out_restricted place x y some) e = cc

  -- where no rule of the transducer uses a child twice, the name is linear
  pub linear_named : AreLinear d → IsLinear items (named n)
  linear_named linear some = none_copies linear (named n) some refl
