-- The language of each state of an automaton that is built.
use Rattle.std.specs.Prelude.{⊤}
use Rattle.std.proofs.Common.{ℕ, zero, suc, ◌≡◌, ◌<◌, ◌↔◌, ◌&&◌, true, Bool, List, [], ◌++◌, map, get_or, length, Option, Some, None, Contains, refl, sym, subst, ◌∙◌, arith}
use Rattle.std.proofs.lemmas.Bool.{and_parts, and_from}
use Rattle.model_tree.specs.Tree.{Tree, node, Trees, no_trees, tree}
use Rattle.model_sta.specs.Automaton.{Rule, rules_of}
use Rattle.model_sta.specs.Sets.{Each, width, Fits, FitsAll}
use Rattle.model_sta.specs.Operations.{Has}
use Rattle.model_sttr.specs.Terms.{Term}
use Rattle.model_sttr.specs.Transducer.{Head, run, OutRule, Sttr, SttrFits}
use Rattle.sttr_theory.specs.Lists.{IsAt, Match}
use Rattle.sttr_theory.specs.Triples.{Triple, Way, LookName, of_first, of_second, middle, firsts, asked, At, Means, AreMet, HasChildren, Yields, IsTermFor, IsAsked}
use Rattle.sttr_theory.specs.Built.{IsRuleOf, IsMadeRule, IsCopy, IsWayRule, AreLookRules, IsBuiltLook}
use Rattle.sttr_theory.proofs.Each.{each_both, each_split, each_map, each_of_map, each_to_map}
use Rattle.sttr_theory.proofs.Matches.{match_out, match_in}
use Rattle.sttr_theory.proofs.Accept.{Fires, wants, AccEach, has_out, has_in}
use Rattle.sttr_theory.proofs.Covers.{held}
use Rattle.sttr_theory.proofs.Asked.{asked_uses}
use Rattle.sttr_theory.proofs.Heads.{rule_out, rule_in, rule_range}

module _ {L : Type 0} (ranks : List ℕ) (D : L → Type 0) (S T : Sttr L) where
  -- each child is what is named
  abbrev pub MeansEach : (ℕ → List LookName) → Trees L → Type 0
  MeansEach W no_trees = ⊤
  MeansEach W (tree t ts) = Each (λ x. Means S T x t) (W 0) × MeansEach (λ j. W (suc j)) ts

  pub means_split : (V W : ℕ → List LookName) (ts : Trees L) → MeansEach (λ j. V j ++ W j) ts → MeansEach V ts × MeansEach W ts
  means_split V W no_trees m = (tt, tt)
  means_split V W (tree t ts) m =
      let (a, b) = each_split (λ x. Means S T x t) (V 0) (W 0) m.0 in
      let (as', bs) = means_split (λ j. V (suc j)) (λ j. W (suc j)) ts m.1 in
      ((a, as'), (b, bs))

  pub means_both : (V W : ℕ → List LookName) (ts : Trees L) → MeansEach V ts → MeansEach W ts → MeansEach (λ j. V j ++ W j) ts
  means_both V W no_trees a b = tt
  means_both V W (tree t ts) a b = (each_both (λ x. Means S T x t) (V 0) (W 0) a.0 b.0, means_both (λ j. V (suc j)) (λ j. W (suc j)) ts a.1 b.1)

  -- states that keep their language under a name
  module _ (A : List (List (Rule L))) (name : ℕ → LookName) where
    abbrev pub KeepsLanguage : Type 0
    KeepsLanguage = (s : ℕ) (t : Tree L) → Means S T (name s) t ↔ Has A s t

    pub means_old_out : KeepsLanguage → (E : ℕ → List ℕ) (ts : Trees L) → MeansEach (λ j. map name (E j)) ts → AccEach A E ts
    means_old_out keeps E no_trees m = tt
    means_old_out keeps E (tree t ts) m = (
      each_map (λ s. Means S T (name s) t) (λ s. Has A s t) (λ s x. (keeps s t).0 x) (E 0) (each_of_map (λ x. Means S T x t) name (E 0) m.0),
      means_old_out keeps (λ j. E (suc j)) ts m.1,
    )

    pub means_old_in : KeepsLanguage → (E : ℕ → List ℕ) (ts : Trees L) → AccEach A E ts → MeansEach (λ j. map name (E j)) ts
    means_old_in keeps E no_trees m = tt
    means_old_in keeps E (tree t ts) m = (
      each_to_map (λ x. Means S T x t) name (E 0) (each_map (λ s. Has A s t) (λ s. Means S T (name s) t) (λ s x. (keeps s t).1 x) (E 0) m.0),
      means_old_in keeps (λ j. E (suc j)) ts m.1,
    )

  -- what is asked of children that there are
  pub means_out : (W : ℕ → List LookName) (ts : Trees L) → MeansEach W ts → ((j : ℕ) → Each (λ n. j < width ts) (W j)) → (j : ℕ) → Each (λ n. At (Means S T n) j ts) (W j)
  means_out W no_trees m lt j = each_map (λ n. j < 0) (λ n. At (Means S T n) j no_trees) (λ n b. absurd (omega (arith, b))) (W j) (lt j)
  means_out W (tree t ts) m lt zero = m.0
  means_out W (tree t ts) m lt (suc j) = means_out (λ k. W (suc k)) ts m.1 (λ k. each_map (λ n. suc k < suc (width ts)) (λ n. k < width ts) (λ n b. omega (arith, b)) (W (suc k)) (lt (suc k))) j

  pub means_in : (W : ℕ → List LookName) (ts : Trees L) → ((j : ℕ) → Each (λ n. At (Means S T n) j ts) (W j)) → MeansEach W ts
  means_in W no_trees m = tt
  means_in W (tree t ts) m = (m 0, means_in (λ k. W (suc k)) ts (λ j. m (suc j)))

  module _ (names : List LookName) (looks : List (List (Rule L))) where
    -- the states of the automaton on the children, by their names
    abbrev pub ChildLooks : Trees L → Type 0
    ChildLooks ts = (E : ℕ → List ℕ) (W : ℕ → List LookName) → ((j : ℕ) → Match (IsAt names) (E j) (W j)) → AccEach looks E ts ↔ MeansEach W ts

    module _ (c : ℕ) (l : L) (d : D l) (ts : Trees L) (kids : ChildLooks ts) where
      -- a made rule does what was wanted
      pub made_out : (r : Rule L) (k : ℕ) (guard : L → Bool) (W : ℕ → List LookName) → IsMadeRule ranks D S T names r k guard W → Fires r c l → AccEach looks (wants r) ts → (k ≡ c) × (guard l ≡ true) × MeansEach W ts
      made_out r k guard W is fires acc = (sym is.same_constructor ∙ fires.0, sym (is.same_guard l d) ∙ fires.1, (kids (wants r) W is.same_demands).0 acc)

      pub made_in : (r : Rule L) (k : ℕ) (guard : L → Bool) (W : ℕ → List LookName) → IsMadeRule ranks D S T names r k guard W → k ≡ c → guard l ≡ true → MeansEach W ts → Fires r c l × AccEach looks (wants r) ts
      made_in r k guard W is e g m = ((is.same_constructor ∙ e, is.same_guard l d ∙ g), (kids (wants r) W is.same_demands).1 m)

      module _ (A : List (List (Rule L))) (name : ℕ → LookName) (keeps : KeepsLanguage A name) (rs : List (Rule L)) (s : ℕ) (same : Match (IsCopy ranks D S T names (map name)) rs (rules_of A s)) where
        pub copies_out : (r : Rule L) → Contains rs r → Fires r c l → AccEach looks (wants r) ts → Has A s (node c l ts)
        copies_out r here fires acc =
            let (ρ, mine, is) = same.0 r here in
            let (e, g, m) = made_out r ρ.constructor ρ.guard (λ j. map name (get_or ρ.demands j [])) is fires acc in
            has_in A c l ts s ρ mine (e, g) (means_old_out A name keeps (wants ρ) ts m)

        pub copies_in : Has A s (node c l ts) → (r : Rule L) × Contains rs r × Fires r c l × AccEach looks (wants r) ts
        copies_in h =
            let (ρ, mine, fires, acc) = has_out A c l ts s h in
            let (r, here, is) = same.1 ρ mine in
            let (fires', acc') = made_in r ρ.constructor ρ.guard (λ j. map name (get_or ρ.demands j [])) is fires.0 fires.1 (means_old_in A name keeps (wants ρ) ts acc) in
            (r, here, fires', acc')

      module _ (ok : SttrFits S ranks) (wide : width ts ≡ get_or ranks c 0) where
        -- what a way asks is asked of children that there are
        pub asks_range : (h : Head) (ρ : OutRule L) → IsRuleOf ranks D S T h ρ → ρ.rule.constructor ≡ c → HasChildren ts ρ.term
        asks_range h ρ is e j u = subst (λ n. j < n) (sym wide) (subst (λ k. j < get_or ranks k 0) e (rule_range ranks D S T ok h ρ is j u))

        -- the rule of a rule of the first and a way
        pub way_out : (r : Rule L) (h : Head) (ρ : OutRule L) → IsRuleOf ranks D S T h ρ → (y : Way L) → ((j : ℕ) → Each (λ n. IsAsked S T ρ.term n j) (asked (get_or y.demands j []))) → IsWayRule ranks D S T names r ρ y → Fires r c l → AccEach looks (wants r) ts
            → Fires ρ.rule c l × AccEach S.looks (wants ρ.rule) ts × (y.guard l ≡ true) × AreMet S T ts y.demands
        way_out r h ρ is y fits made fires acc =
            let (e, g, m) = made_out r ρ.rule.constructor (λ l. ρ.rule.guard l && y.guard l) (λ j. firsts (get_or ρ.rule.demands j []) ++ asked (get_or y.demands j [])) made fires acc in
            let (gρ, gy) = and_parts (ρ.rule.guard l) (y.guard l) g in
            let (olds, asks) = means_split (λ j. firsts (get_or ρ.rule.demands j [])) (λ j. asked (get_or y.demands j [])) ts m in (
              (e, gρ),
              means_old_out S.looks of_first (λ s t. (λ x. x, λ x. x)) (wants ρ.rule) ts olds,
              gy,
              means_out (λ j. asked (get_or y.demands j [])) ts asks
                  (λ j. each_map (λ n. IsAsked S T ρ.term n j) (λ n. j < width ts) (λ n a. asks_range h ρ is e j (asked_uses S T ρ.term j n a)) (asked (get_or y.demands j [])) (fits j)),
            )

        pub way_in : (r : Rule L) (ρ : OutRule L) (y : Way L) → IsWayRule ranks D S T names r ρ y → Fires ρ.rule c l → AccEach S.looks (wants ρ.rule) ts → y.guard l ≡ true → AreMet S T ts y.demands → Fires r c l × AccEach looks (wants r) ts
        way_in r ρ y made fires acc g met =
            made_in r ρ.rule.constructor (λ l. ρ.rule.guard l && y.guard l) (λ j. firsts (get_or ρ.rule.demands j []) ++ asked (get_or y.demands j [])) made fires.0 (and_from (ρ.rule.guard l) (y.guard l) fires.1 g)
            (means_both (λ j. firsts (get_or ρ.rule.demands j [])) (λ j. asked (get_or y.demands j [])) ts
            (means_old_in S.looks of_first (λ s t. (λ x. x, λ x. x)) (wants ρ.rule) ts acc) (means_in (λ j. asked (get_or y.demands j [])) ts met))

        -- without a second part there is no term, and nothing to yield
        yields_none : (p : Term Head (L → L)) (h : Head) (all : List ℕ) (y : Option (Term Triple (L → L))) (w : Tree L) → IsTermFor S T p (record { first = h; all = all; second = None }) y → Yields S T l ts y w
        yields_none p h all None w is = tt
        yields_none p h all (Some z) w is = absurd (is.0 refl)

        pub state_out : (rs : List (Rule L)) (x : LookName) → AreLookRules ranks D S T names rs x → (r : Rule L) → Contains rs r → Fires r c l → AccEach looks (wants r) ts → Means S T x (node c l ts)
        state_out rs (of_first s) are r here fires acc = copies_out S.looks of_first (λ s t. (λ x. x, λ x. x)) rs s are r here fires acc
        state_out rs (of_second s) are r here fires acc = copies_out T.looks of_second (λ s t. (λ x. x, λ x. x)) rs s are r here fires acc
        state_out rs (middle q all) are r here fires acc =
            let (ρ, is, ys, ways, y, mine, made) = are.only r here in
            let (fires', acc', g, met) = way_out r (run q) ρ is y (ways.fit y mine).demands made fires acc in
            let (u, i, has, end) = ways.only l d ts (node c l ts) (asks_range (run q) ρ is fires'.0) tt y mine (g, met, yields_none ρ.term (run q) all y.term (node c l ts) (ways.fit y mine).term) in
            (u, rule_in ranks D S T c l ts u (run q) wide ρ is (fires', acc', i), has)

        pub state_in : (rs : List (Rule L)) (x : LookName) → AreLookRules ranks D S T names rs x → c < length ranks → Means S T x (node c l ts) → (r : Rule L) × Contains rs r × Fires r c l × AccEach looks (wants r) ts
        state_in rs (of_first s) are lt m = copies_in S.looks of_first (λ s t. (λ x. x, λ x. x)) rs s are m
        state_in rs (of_second s) are lt m = copies_in T.looks of_second (λ s t. (λ x. x, λ x. x)) rs s are m
        state_in rs (middle q all) are lt m =
            let (u, gives, has) = m in
            let (ρ, is, (fires, acc, i)) = rule_out ranks D S T c l ts u (run q) lt wide gives in
            let (ys, ways, each) = are.all ρ is in
            let (y, mine, (g, met, yields)) = ways.all l d ts (node c l ts) (u, i, has, tt) in
            let (r, here, made) = held D (λ l. ρ.rule.guard l && y.guard l) l d (and_from (ρ.rule.guard l) (y.guard l) fires.1 g) (each y mine) in
            let (fires', acc') = way_in r ρ y made fires acc g met in
            (r, here, fires', acc')

    module _ (ok : SttrFits S ranks) (built : IsBuiltLook ranks D S T names looks) where
      mutual
        -- each state has the language of its name
        pub look_exact : (t : Tree L) → Fits ranks D t → (i : ℕ) (x : LookName) → IsAt names i x → Has looks i t ↔ Means S T x t
        look_exact (node c l ts) ty i x at =
            let kids : ChildLooks ts = looks_exact ts ty.3 in (
              (λ h. let (r, here, fires, acc) = has_out looks c l ts i h in state_out c l ty.1 ts kids ok ty.2 (rules_of looks i) x (built.each i x at) r here fires acc),
              (λ m. let (r, here, fires, acc) = state_in c l ty.1 ts kids ok ty.2 (rules_of looks i) x (built.each i x at) ty.0 m in has_in looks c l ts i r here fires acc),
            )

        pub looks_exact : (ts : Trees L) → FitsAll ranks D ts → ChildLooks ts
        looks_exact no_trees ty E W same = (λ a. tt, λ m. tt)
        looks_exact (tree t ts) ty E W same =
            let rest = looks_exact ts ty.1 (λ j. E (suc j)) (λ j. W (suc j)) (λ j. same (suc j)) in (
              (λ a. (match_out (IsAt names) (λ i. Has looks i t) (λ x. Means S T x t) (λ i x at h. (look_exact t ty.0 i x at).0 h) (E 0) (W 0) (same 0) a.0, rest.0 a.1)),
              (λ m. (match_in (IsAt names) (λ i. Has looks i t) (λ x. Means S T x t) (λ i x at h. (look_exact t ty.0 i x at).1 h) (E 0) (W 0) (same 0) m.0, rest.1 m.1)),
            )
