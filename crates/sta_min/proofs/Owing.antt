-- What the least automaton owes besides.
use Rattle.std.proofs.Common.{ℕ, suc, ◌≡◌, ◌<◌, ◌==◌, inl, inr, Bool, true, IsTrue, Vec, List, [], ◌∷◌, ◌++◌, map, nat_lt, get_or, length, All, Contains, refl, sym, ap, subst, ◌∙◌, arith, eq-eqb}
use Rattle.std.specs.Cmp.{IsEquivalence}
use Rattle.std.specs.List.{flat_map, list_any, AllPairs}
use Rattle.std.proofs.lemmas.Bool.{cases_lt, and_from}
use Rattle.std.proofs.lemmas.Bool.Decides.{nat_tests}
use Rattle.std.proofs.lemmas.List.{length-map, get_or_past}
use Rattle.model_tree.specs.Formula.{Formula, all_of, formulas_of, EveryAtom}
use Rattle.model_tree.specs.Label.{Label}
use Rattle.model_sta.specs.Automaton.{Rule, rules_of}
use Rattle.model_sta.specs.Sets.{Each, has, set_of}
use Rattle.model_sta.proofs.Reached.{same_default, fits_more}
use Rattle.label_core.specs.Atoms.{has_equal, EachHasEqual}
use Rattle.label_core.specs.Formula.{atoms_in}
use Rattle.label_core.specs.Meaning.{Meaning}
use Rattle.label_split.proofs.SameAtoms.{all_atoms, every_atom, equal_fits}
use Rattle.sta_core.specs.Fits.{RulesFit}
use Rattle.sta_core.specs.Machine.{PlainRule}
use Rattle.sta_core.specs.Sta.{automaton_of, rule_meaning, AtomsFit}
use Rattle.sta_core.specs.declared.Lang.{Lang}
use Rattle.sta_core.specs.declared.StaRule.{StaRule}
use Rattle.sta_classes.specs.Guards.{all_guards, atoms_of_all}
use Rattle.sta_classes.specs.Plain.{PlainTable, class_row, kind_at, kind_count}
use Rattle.sta_classes.specs.Rules.{plain_rules}
use Rattle.sta_classes.proofs.Atoms.{of_each_formula}
use Rattle.sta_theory.specs.Built.{keys}
use Rattle.sta_theory.specs.Kinds.{OneKind}
use Rattle.sta_theory.specs.Minimal.{is_among, IsLeast}
use Rattle.sta_theory.proofs.Lists.{in_left, flat_member}
use Rattle.sta_ops.specs.Languages.{auto_of}
use Rattle.sta_ops.proofs.Atoms.{Guarded, IsAmong, from_fit, to_fit, guard_of, among, each_equal, in_each}
use Rattle.sta_ops.proofs.EachRule.{EachRule, each_at, all_in}
use Rattle.sta_ops.proofs.Fitting.{PlainFits, rules_fit}
use Rattle.sta_min.specs.Demands.{is_free}
use Rattle.sta_min.specs.Least.{HasOneKind, HasLeast, HasLittle, IsMinimalOf}
use Rattle.sta_min.specs.Tables.{kind_table, IsSpace, IsPartition}
use Rattle.sta_min.specs.Written.{AreAllRules}
use Rattle.sta_min.specs.declared.least.Minimal.{Minimal}
use Rattle.sta_min.proofs.Choosing.{keys_long, key_free, keys_own}
use Rattle.sta_min.proofs.Writing.{IsOver, rule_of, from_meant, is_least}

within : (n m : ℕ) → n < m → nat_lt n m ≡ true
within n m low = grind (arith, nat_tests)

module _ {A V W : Type 0} {label_of : V → Label} {holds : A → Label → Bool} (M : Meaning label_of holds W) (keeps_labels : (l : Label) → M.keeps l → M.has l) (eq : A → A → Bool) (t : PlainTable A V) (values : List (List V)) (kinds : List (List (List ℕ)))
    (space : IsSpace label_of holds t values kinds M) (start : ℕ) (firsts dense : List ℕ) (part : IsPartition M.has (kind_table label_of holds t values kinds) start firsts dense)
    (finals : List ℕ) (finals_low : All (λ k. k < length firsts) finals) (rules : List (List (PlainRule A))) (all : AreAllRules eq label_of holds t values firsts dense finals rules) where
  abbrev over : List (List (Rule Label))
  over = automaton_of holds t.machine

  abbrev Over : ℕ → PlainRule A → Type 0
  Over = IsOver M keeps_labels eq t values kinds space start firsts dense part

  known_many : length (map (λ f. f.row) t.found) ≡ length t.found
  known_many = length-map t.found (λ f. f.row)

  first_low : (k : ℕ) → k < length firsts → get_or firsts k 0 < length t.found
  first_low k low = omega (arith, part.numbers.first_low k low, known_many)

  -- what holds of the rules of each block holds of each rule
  pub each_rule : (Q : PlainRule A → Type 0) → ((i : ℕ) (r : PlainRule A) → Over i r → Q r) → EachRule Q rules
  each_rule Q h rs at r here = elim (cases_lt at.0 (length firsts)) [
    | inl low ↦ of_block at.0 low r (subst (λ l. Contains l r) (sym (same_default rules at.0 [] rs at.1 ∙ at.2)) here)
    | inr high ↦ (
        let last : at.0 ≡ length firsts = omega (arith, high, at.1, all.many) in
        let is : rs ≡ flat_map (λ i. get_or rules i []) finals = sym (same_default rules at.0 [] rs at.1 ∙ at.2) ∙ ap (λ i. get_or rules i []) last ∙ all.last in
        let (i, at_i, there) = flat_member (λ i. get_or rules i []) finals r (subst (λ l. Contains l r) is here) in
        of_block i (all_in (λ k. k < length firsts) finals finals_low i at_i) r there)
  ]
    where
      of_block : (i : ℕ) → i < length firsts → (r : PlainRule A) → Contains (get_or rules i []) r → Q r
      of_block i low r at = h i r (rule_of M keeps_labels eq t values kinds space start firsts dense part finals rules all i low r at)

  -- ---- the rules fit

  rule_fits : (i : ℕ) (r : PlainRule A) → Over i r → PlainFits t.machine.ranks (suc (length firsts)) r
  rule_fits i r is =
      let constructor_is : r.constructor ≡ is.constructor = is.rule.constructor_is ∙ is.are.constructor_is in
      let demands_are = is.rule.demands_are ∙ is.are.demands_are in
      record {
        low = subst (λ c. c < length t.machine.ranks) (sym constructor_is) is.low;
        wide = ap length demands_are ∙ keys_long (is_free t is.constructor) is.blocks ∙ is.wide ∙ ap (λ c. get_or t.machine.ranks c 0) (sym constructor_is);
        own = λ d at s here.
            let low : s < length firsts = keys_own (length firsts) (is_free t is.constructor) is.blocks is.are_low d (subst (λ ds. Contains ds d) demands_are at) s here in
            omega (arith, low);
      }

  pub all_fit : {G : Type 0} (ranks : List ℕ) → ranks ≡ t.machine.ranks → (code : List (Vec (StaRule A) G)) → plain_rules code ≡ rules → RulesFit ranks code
  all_fit ranks same code are = rules_fit ranks t.machine.ranks (suc (length firsts)) code rules same are all.many (each_rule (PlainFits t.machine.ranks (suc (length firsts))) rule_fits)

  -- ---- nothing is demanded where there is one kind

  module _ (c j : ℕ) (c_low : c < length t.machine.ranks) (j_low : j < get_or t.machine.ranks c 0) (one : HasOneKind t.machine.ranks M.has over c j) where
    same_kind : (k m : ℕ) → k < length t.found → m < length t.found → kind_at t c j k ≡ kind_at t c j m
    same_kind k m k_low m_low =
        let (u, u_fits, u_is) = space.table.sets.reached k [] (omega (arith, k_low, known_many)) in
        let (w, w_fits, w_is) = space.table.sets.reached m [] (omega (arith, m_low, known_many)) in
        let kinds_same : OneKind over c j (set_of over u) (set_of over w) = one u w (fits_more t.machine.ranks M.keeps M.has keeps_labels u u_fits) (fits_more t.machine.ranks M.keeps M.has keeps_labels w w_fits) in
        (space.has_kinds.same c j k m c_low j_low k_low m_low).1 (subst (λ x. OneKind over c j x (class_row t m)) u_is (subst (λ x. OneKind over c j (set_of over u) x) w_is kinds_same))

    one_kind : (k : ℕ) → k < length t.found → kind_count t c j ≡ 1
    one_kind k low = elim (cases_lt 1 (kind_count t c j)) [
      | inl more ↦ (
          let (x, x_low, x_is) = space.has_kinds.all c j 0 c_low j_low (omega arith) in
          let (y, y_low, y_is) = space.has_kinds.all c j 1 c_low j_low more in
          let same : kind_at t c j x ≡ kind_at t c j y = same_kind x y x_low y_low in
          absurd (omega (arith, same, x_is, y_is)))
      | inr few ↦ omega (arith, few, space.has_kinds.low c j k c_low j_low low)
    ]

  head_low : (ks : List ℕ) (j : ℕ) → j < length ks → Each (λ k. k < length firsts) ks → 0 < length firsts
  head_low [] j low h = absurd (omega arith)
  head_low (k ∷ ks) j low h = omega (arith, h.0)

  little : (i : ℕ) (r : PlainRule A) → Over i r → (j : ℕ) → HasOneKind t.machine.ranks M.has over r.constructor j → get_or r.demands j [] ≡ []
  little i r is j one =
      let c : ℕ = is.constructor in
      let constructor_is : r.constructor ≡ c = is.rule.constructor_is ∙ is.are.constructor_is in
      let here : HasOneKind t.machine.ranks M.has over c j = subst (λ b. HasOneKind t.machine.ranks M.has over b j) constructor_is one in
      let key : get_or (keys (is_free t c) is.blocks) j [] ≡ [] = elim (cases_lt j (length is.blocks)) [
        | inl low ↦ (
            let j_low : j < get_or t.machine.ranks c 0 = omega (arith, low, is.wide) in
            let some : 0 < length firsts = head_low is.blocks j low is.are_low in
            key_free (is_free t c) is.blocks j
            (and_from (nat_lt j (get_or t.machine.ranks c 0)) (kind_count t c j == 1) (within j (get_or t.machine.ranks c 0) j_low)
            (eq-eqb (kind_count t c j) 1 (one_kind c j is.low j_low here (get_or firsts 0 0) (first_low 0 some)))))
        | inr past ↦ get_or_past (keys (is_free t c) is.blocks) j [] (omega (arith, past, keys_long (is_free t c) is.blocks))
      ] in
      ap (λ ds. get_or ds j []) (is.rule.demands_are ∙ is.are.demands_are) ∙ key

  -- ---- the atoms

  guarded : (F : A → Type 0) → ((a b : A) → eq a b ≡ true → F b → F a) → All F (atoms_of_all (all_guards t.machine.rules)) → EachRule (Guarded F) rules
  guarded F same those = each_rule (Guarded F) (λ i r is. every_atom F r.guard (λ k d low. equal_fits eq F same (atoms_of_all (all_guards t.machine.rules)) those (get_or (atoms_in r.guard) k d) (is.rule.guard.atoms k d low)))

  atoms_have : (F : A → Type 0) → EachRule (Guarded F) t.machine.rules → All F (atoms_of_all (all_guards t.machine.rules))
  atoms_have F h = all_atoms F (all_of (formulas_of (all_guards t.machine.rules))) (of_each_formula F (all_guards t.machine.rules) (in_each (EveryAtom F) (all_guards t.machine.rules) (guard_of (EveryAtom F) t.machine.rules h)))

  module _ (own_equal : M.equal ≡ eq) (laws : IsEquivalence eq) (fits : A → Type 0) (equal_fit : (a b : A) → eq a b ≡ true → fits a → fits b) (atoms : AtomsFit fits t.machine)
      (finals_are : (k : ℕ) → k < length firsts → is_among finals k ≡ has (class_row t (get_or firsts k 0)) start) where
    abbrev own : Lang A
    own = record { sta = t.machine; state = start }

    fit_rules : EachRule (Guarded fits) rules
    fit_rules = guarded fits (λ a b e h. equal_fit b a (laws.symm b a ∙ e) h) (atoms_have fits (from_fit fits t.machine atoms))

    abbrev twice : List (Formula A)
    twice = all_guards t.machine.rules ++ all_guards t.machine.rules

    same_there : (x y : A) → eq x y ≡ true → has_equal eq (atoms_of_all twice) x ≡ has_equal eq (atoms_of_all twice) y
    same_there x y e = λ i. list_any (λ z. laws.congr x y z e i) (atoms_of_all twice)

    known_rules : EachRule (Guarded (IsAmong eq laws twice)) rules
    known_rules =
        guarded (IsAmong eq laws twice) (λ a b e h. subst IsTrue (sym (same_there a b e)) h)
        (atoms_have (IsAmong eq laws twice) (among eq laws twice t.machine.rules (in_left (all_guards t.machine.rules) (all_guards t.machine.rules))))

    module _ (m : Minimal A) (ranks : m.lang.sta.ranks ≡ t.machine.ranks) (are : m.lang.sta.rules ≡ rules) (state : m.lang.state ≡ length firsts) (count : m.count ≡ length firsts) (those : m.finals.items ≡ finals) (ascending : AllPairs (λ i j. i < j) finals) where
      least : HasLeast M own m
      least =
          subst (λ k. IsLeast t.machine.ranks M.has (auto_of holds own) (auto_of holds m.lang) k m.finals.items) (sym count)
          (subst (IsLeast t.machine.ranks M.has (auto_of holds own) (auto_of holds m.lang) (length firsts)) (sym those)
          (is_least M keeps_labels eq t values kinds space start firsts dense part finals rules all finals_are (auto_of holds own) (auto_of holds m.lang) refl refl (ap (map (map (rule_meaning holds))) are) state finals_low))

      demands_little : HasLittle M own m
      demands_little i r at j =
          let (p, at_p, is) = from_meant M keeps_labels eq t values kinds space start firsts dense part finals rules all i r (subst (λ l. Contains (rules_of (map (map (rule_meaning holds)) l) i) r) are at) in
          let h : (j : ℕ) → HasOneKind t.machine.ranks M.has over p.constructor j → get_or p.demands j [] ≡ [] =
          each_at (λ q. (j : ℕ) → HasOneKind t.machine.ranks M.has over q.constructor j → get_or q.demands j [] ≡ []) rules (each_rule (λ q. (j : ℕ) → HasOneKind t.machine.ranks M.has over q.constructor j → get_or q.demands j [] ≡ []) little) i p at_p in
          subst (λ z. HasOneKind t.machine.ranks M.has over z.constructor j → get_or z.demands j [] ≡ []) is (h j)

      pub is_minimal : IsMinimalOf M fits own m
      is_minimal = record {
        least = least;
        little = demands_little;
        made = record {
          ranks = ranks;
          low = omega (arith, state, ap length are, all.many);
          fit = to_fit fits m.lang.sta (subst (EachRule (Guarded fits)) (sym are) fit_rules);
          guards = least.guards;
          atoms = subst (λ e. EachHasEqual e (atoms_of_all (all_guards m.lang.sta.rules)) (atoms_of_all twice)) (sym own_equal) (each_equal eq laws twice m.lang.sta.rules (subst (EachRule (Guarded (IsAmong eq laws twice))) (sym are) known_rules));
        };
        finals = subst (λ l. All (λ i. i < m.count) l × AllPairs (λ i j. i < j) l) (sym those) (subst (λ n. All (λ i. i < n) finals) (sym count) finals_low, ascending);
      }
