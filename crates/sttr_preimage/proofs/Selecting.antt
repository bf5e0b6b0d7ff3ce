-- Transducers for some of their inputs.
use Rattle.std.proofs.Common.{ℕ, ◌≡◌, ◌<◌, ◌⊎◌, ◌&&◌, inl, inr, Bool, true, Vec, List, [], ◌∷◌, ◌++◌, map, get_or, length, All, Contains, refl, sym, subst, ap, ap₂, ◌∙◌, arith}
use Rattle.std.proofs.lemmas.Bool.{cases_lt}
use Rattle.std.proofs.lemmas.List.{length-map, length-append, get_or_past}
use Rattle.model_tree.specs.Label.{Label}
use Rattle.model_tree.specs.Formula.{EveryAtom, formula_holds}
use Rattle.model_sta.specs.Automaton.{Rule, rules_of}
use Rattle.model_sta.specs.Sets.{Each}
use Rattle.model_sttr.specs.Terms.{Term, on, build, Parts, no_parts, part, with_maps, Occurs, OccursIn, StandsFor, StandFor}
use Rattle.model_sttr.specs.Transducer.{Head, OutRule, Sttr, out_rules, IsHead, SttrFits}
use Rattle.model_sttr.specs.Plain.{PlainOut}
use Rattle.label_core.specs.Formula.{plain_formula}
use Rattle.label_core.specs.Meaning.{Meaning}
use Rattle.sta_core.specs.Fits.{RuleFits}
use Rattle.sta_core.specs.Machine.{Machine, PlainRule, plain_rule}
use Rattle.sta_core.specs.Sta.{automaton_of, rule_meaning, AtomsFit}
use Rattle.sta_core.specs.declared.StaRule.{StaRule}
use Rattle.sta_core.specs.declared.Lang.{Lang}
use Rattle.sta_core.proofs.Meaning.{rules_of_automaton}
use Rattle.sttr_core.specs.Machine.{OutMachine, plain_out, transducer_of}
use Rattle.sttr_core.specs.declared.sttr.SttrRule.{SttrRule}
use Rattle.sttr_core.specs.declared.sttr.Trans.{Trans}
use Rattle.sttr_core.proofs.Meaning.{rules_meant}
use Rattle.sttr_theory.specs.Lists.{IsAt, Extends, Match}
use Rattle.sttr_theory.specs.Triples.{LookName, of_first, of_second, middle, firsts, seconds}
use Rattle.sttr_theory.specs.Covers.{Never}
use Rattle.sttr_theory.specs.Built.{IsMadeRule, IsBuiltLook}
use Rattle.sttr_theory.specs.Results.{OfEither, IsOldHead, IsOldRule, IsJointRule, IsBuiltRestriction}
use Rattle.sttr_theory.proofs.Fits.{made_demands, restriction_fits}
use Rattle.sttr_theory.proofs.Grow.{push_before, push_at}
use Rattle.sttr_theory.proofs.Guards.{restriction_guards, restriction_maps}
use Rattle.sttr_theory.proofs.Linear.{restriction_linear}
use Rattle.sttr_theory.proofs.Restriction.{restriction_owed}
use Rattle.sttr_run.specs.Fits.{RuleStands, OutStands, SttrStands}
use Rattle.sttr_preimage.specs.Names.{Adds}
use Rattle.sttr_preimage.specs.Called.{IsTermCopy}
use Rattle.sttr_preimage.specs.Kept.{IsBelow, IsEither, joint_demands, IsKept, IsJoint, AreRestricted}
use Rattle.sttr_preimage.specs.Images.{IsSecond, IsMiddle, HasOne, CanAsk, second_of, meant, IsLookName, IsLookAtom, AreAllRows, HasOutRule}
use Rattle.sttr_preimage.specs.Outs.{RuleOver, IsOver}
use Rattle.sttr_preimage.specs.Through.{nothing_of}
use Rattle.sttr_preimage.specs.Results.{trans_at, auto_at, IsOldAtom, IsOldMap, IsAskedAtom, IsRestricted}
use Rattle.sttr_preimage.proofs.Atoms.{row_in, all_in, in_all, every_own}
use Rattle.sttr_preimage.proofs.Finished.{can_ask, own_asked, look_built, every_name, every_fit, every_atom}
use Rattle.sttr_preimage.proofs.Keeping.{kept_wider}
use Rattle.sttr_preimage.proofs.Middles.{guard_at, match_mapped, each_to_all, all_both, and_true}
use Rattle.sttr_preimage.proofs.Numbered.{adds_extends, adds_then, match_none}
use Rattle.sttr_preimage.proofs.Restricted.{in_rows}
use Rattle.sttr_core.specs.Fits.{LabelsFit}
use Rattle.sttr_preimage.proofs.Sides.{all_stand}
use Rattle.sttr_preimage.proofs.Standing.{below_of, stands_at, sttr_fits, rule_over, as_many_rules}
use Rattle.sttr_theory.proofs.Members.{to_mapped, of_mapped, in_single}
use Rattle.sttr_theory.proofs.Matches.{match_map}

module _ {A M : Type 0} (f : OutMachine A M) (stands : SttrStands f) where
  pub rules_below : (q : ℕ) (rs : List (SttrRule A M)) → q < length f.rules → map plain_out rs ≡ get_or f.rules q [] → All (λ r. IsBelow (length f.looks.rules) (plain_rule r.rule)) rs
  rules_below q rs low e = in_all (λ r. IsBelow (length f.looks.rules) (plain_rule r.rule)) rs (λ r at.
      below_of f.looks.ranks (length f.looks.rules) (plain_rule r.rule) (all_in (OutStands f.looks.ranks (length f.looks.rules) (length f.rules)) (get_or f.rules q []) (all_in (All (OutStands f.looks.ranks (length f.looks.rules) (length f.rules))) f.rules stands (get_or f.rules q []) (row_in f.rules q low)) (plain_out r) (subst (λ l. Contains l (plain_out r)) e (to_mapped plain_out rs r at))).rule)

  pub states_below : {G : Type 0} (rows : List (Vec (SttrRule A M) G)) → map (λ those. map plain_out those.items) rows ≡ f.rules → All (λ those. All (λ r. IsBelow (length f.looks.rules) (plain_rule r.rule)) those.items) rows
  states_below rows e = in_all (λ those. All (λ r. IsBelow (length f.looks.rules) (plain_rule r.rule)) those.items) rows (λ those at. in_all (λ r. IsBelow (length f.looks.rules) (plain_rule r.rule)) those.items (λ r mine.
      below_of f.looks.ranks (length f.looks.rules) (plain_rule r.rule) (all_in (OutStands f.looks.ranks (length f.looks.rules) (length f.rules)) (map plain_out those.items) (all_in (All (OutStands f.looks.ranks (length f.looks.rules) (length f.rules))) f.rules stands (map plain_out those.items)
      (subst (λ l. Contains l (map plain_out those.items)) e (to_mapped (λ those. map plain_out those.items) rows those at))) (plain_out r) (to_mapped plain_out those.items r mine)).rule))

pub others_below : {A : Type 0} (ranks : List ℕ) (m : ℕ) (rs : List (StaRule A)) → All (RuleFits ranks m) rs → All (λ s. IsBelow m (plain_rule s)) rs
others_below ranks m rs h = in_all (λ s. IsBelow m (plain_rule s)) rs (λ s at. below_of ranks m (plain_rule s) (all_in (RuleStands ranks m) (map plain_rule rs) (all_stand ranks m rs h) (plain_rule s) (to_mapped plain_rule rs s at)))

-- guards of rules as the code holds them
pub own_guards : {A M : Type 0} (P : A → Type 0) (f : OutMachine A M) (q : ℕ) (rs : List (SttrRule A M)) → q < length f.rules → map plain_out rs ≡ get_or f.rules q [] → All (λ rules. All (λ r. EveryAtom P r.rule.guard) rules) f.rules → All (λ r. EveryAtom P (plain_formula r.rule.guard)) rs
own_guards P f q rs low e h = in_all (λ r. EveryAtom P (plain_formula r.rule.guard)) rs (λ r at. guard_at P f q (plain_out r) (low, subst (λ l. Contains l (plain_out r)) e (to_mapped plain_out rs r at)) h)

module _ {L : Type 0} (D : L → Type 0) (P : Head → Type 0) where
  mutual
    -- heads that stand for themselves, where they are heads
    heads_stand : (p q : Term Head (L → L)) → StandsFor (λ h k. h ≡ k) D p q → ((k : Head) (j : ℕ) → Occurs k j q → P k) → StandsFor (λ h k. (h ≡ k) × P k) D p q
    heads_stand (on h j) (on k i) s all = ((s.0, all k i (refl, refl)), s.1)
    heads_stand (on h j) (build d n qs) s all = s
    heads_stand (build c m ps) (on k i) s all = s
    heads_stand (build c m ps) (build d n qs) s all = (s.0, s.1, parts_stand ps qs s.2 all)

    parts_stand : (ps qs : Parts Head (L → L)) → StandFor (λ h k. h ≡ k) D ps qs → ((k : Head) (j : ℕ) → OccursIn k j qs → P k) → StandFor (λ h k. (h ≡ k) × P k) D ps qs
    parts_stand no_parts no_parts s all = s
    parts_stand no_parts (part q qs) s all = s
    parts_stand (part p ps) no_parts s all = s
    parts_stand (part p ps) (part q qs) s all = (heads_stand p q s.0 (λ k j o. all k j (inl o)), parts_stand ps qs s.1 (λ k j o. all k j (inr o)))

-- ---- names of both sides alone

module _ {A M V W : Type 0} (is_put : M → A → A → Type 0) (make : M → Label → Label) {label_of : V → Label} {holds : A → Label → Bool} (N : Meaning label_of holds W) (fits : A → Type 0) (f : OutMachine A M) (a : Machine A) (old names : List LookName) (none : old ≡ []) (more : Adds old names (IsEither (length f.looks.rules) (length a.rules))) where
  side_known : (x : LookName) → Contains names x → IsEither (length f.looks.rules) (length a.rules) x
  side_known x c = more.wanted x (subst (λ l. Contains l x) (more.behind ∙ ap (λ l. l ++ more.more) none) c)

  pub no_middle : HasOne IsMiddle names → ⊥
  no_middle (x, c, is) = by x (side_known x c) is
    where
      by : (x : LookName) → IsEither (length f.looks.rules) (length a.rules) x → IsMiddle x → ⊥
      by (of_first s) k is = is
      by (of_second s) k is = is
      by (middle q all) k is = k

  pub sides_known : (x : LookName) → Contains names x → IsLookName holds make f (nothing_of a) (HasOne IsSecond names) (HasOne IsMiddle names) x
  sides_known x c = by x c (side_known x c)
    where
      by : (x : LookName) → Contains names x → IsEither (length f.looks.rules) (length a.rules) x → IsLookName holds make f (nothing_of a) (HasOne IsSecond names) (HasOne IsMiddle names) x
      by (of_first s) c k = k
      by (of_second s) c k = (k, inr (of_second s, c, tt))
      by (middle q all) c k = absurd k

  pub sides_can : {T : Type 0} (atom_fits : T → A → Type 0) (map_fits map_makes : T → M → Type 0) (theory : T) → All (All (RuleStands f.looks.ranks (length f.looks.rules))) f.looks.rules → SttrStands f → LabelsFit (atom_fits theory) (map_fits theory) f → All (All (RuleStands a.ranks (length a.rules))) a.rules → a.ranks ≡ f.looks.ranks → AtomsFit (atom_fits theory) a
      → CanAsk atom_fits map_fits map_makes theory f (nothing_of a) (HasOne IsSecond names) (HasOne IsMiddle names)
  sides_can atom_fits map_fits map_makes theory looks stands labels second ranks fit = can_ask a atom_fits map_fits map_makes theory f (HasOne IsSecond names) (HasOne IsMiddle names) looks stands labels second (λ p. absurd (no_middle p)) (λ e. record { ranks = ranks; fit = fit })

-- ---- the restriction

module _ {A M V W : Type 0} (is_put : M → A → A → Type 0) (make : M → Label → Label) {label_of : V → Label} {holds : A → Label → Bool} (N : Meaning label_of holds W) (fits : A → Type 0) (f : Trans A M) (a : Lang A) (eq : M → M → Bool)
    (looks : All (All (RuleStands f.sttr.looks.ranks (length f.sttr.looks.rules))) f.sttr.looks.rules) (stands : SttrStands f.sttr) (start : f.state < length f.sttr.rules) (state : a.state < length a.sta.rules) (ranks : a.sta.ranks ≡ f.sttr.looks.ranks) (guards : All (λ rules. All (λ r. EveryAtom fits r.rule.guard) rules) f.sttr.rules) (asked_fit : AtomsFit fits a.sta) (same : (b : A) → N.equal b b ≡ true)
    (others : All (RuleStands a.sta.ranks (length a.sta.rules)) (get_or a.sta.rules a.state [])) (before old names : List LookName) (none : before ≡ [])
    (made : List (List (PlainOut (PlainRule A) M))) (h : AreRestricted make N.has eq (length f.sttr.looks.rules) (length a.sta.rules) holds before old f.sttr.rules f.state (get_or a.sta.rules a.state []) made)
    (rows : List (List (PlainRule A))) (all : AreAllRows is_put make N fits f.sttr (nothing_of a.sta) (HasOne IsSecond old) (HasOne IsMiddle old) old names rows) (d : OutMachine A M) (d_ranks : d.looks.ranks ≡ f.sttr.looks.ranks) (d_looks : d.looks.rules ≡ rows) (d_rules : d.rules ≡ made) (n : ℕ) (n_is : n ≡ length f.sttr.rules) (no_between : HasOne IsMiddle old → ⊥) where
  abbrev F : Sttr Label
  F = transducer_of holds make f.sttr

  abbrev G : Sttr Label
  G = second_of holds make f.sttr (nothing_of a.sta)

  abbrev R : List ℕ
  R = f.sttr.looks.ranks

  abbrev Old : PlainOut (PlainRule A) M → OutRule Label
  Old r = meant holds make f.sttr (nothing_of a.sta) r

  ok : SttrFits F R
  ok = sttr_fits holds make f.sttr looks stands

  grown : Extends old names
  grown = adds_extends old names _ all.adds

  term_stands : (q : ℕ) (r x : PlainOut (PlainRule A) M) → HasOutRule f.sttr q r → IsTermCopy make N.has eq r.term x.term → StandsFor (IsOldHead F) N.has (with_maps make x.term) (with_maps make r.term)
  term_stands q r x there is = heads_stand N.has (IsHead F) (with_maps make x.term) (with_maps make r.term) is.stands (λ k j o. (ok.rules q (Old r) (rule_over holds make f.sttr q r there)).heads k j o)

  old_rule : (q : ℕ) (r x : PlainOut (PlainRule A) M) → HasOutRule f.sttr q r → IsKept make N.has eq names x r → IsOldRule R N.has (trans_at holds make f) (auto_at holds a) names (Old x) (Old r)
  old_rule q r x there is = (
    record { same_constructor = is.rule.constructor; same_guard = λ l dl. ap (formula_holds (λ b. holds b l)) is.rule.guard; same_demands = is.rule.each },
    term_stands q r x there is.term,
  )

  wide : (r : PlainOut (PlainRule A) M) → HasOutRule f.sttr f.state r → (σ : PlainRule A) → Contains (get_or a.sta.rules a.state []) σ → r.rule.constructor ≡ σ.constructor → length σ.demands ≡ length r.rule.demands
  wide r there σ mine one =
      let own = (stands_at holds make f.sttr stands f.state r there).rule in
      let its = all_in (RuleStands a.sta.ranks (length a.sta.rules)) (get_or a.sta.rules a.state []) others σ mine in
      its.children ∙ ap₂ (λ rk c. get_or rk c 0) ranks (sym one) ∙ sym own.children

  joint_wide : (x r : PlainOut (PlainRule A) M) (σ : PlainRule A) → IsJoint make N.has eq old x r σ → IsJoint make N.has eq names x r σ
  joint_wide x r σ is = record { constructor = is.constructor; guard = is.guard; count = is.count; each = λ j low. match_map (IsAt old) (IsAt names) grown (get_or x.rule.demands j []) (joint_demands r.rule σ j) (is.each j low); term = is.term }

  joint_rule : (r x : PlainOut (PlainRule A) M) → HasOutRule f.sttr f.state r → (σ : PlainRule A) → Contains (get_or a.sta.rules a.state []) σ → r.rule.constructor ≡ σ.constructor → IsJoint make N.has eq names x r σ → IsJointRule R N.has (trans_at holds make f) (auto_at holds a) names (Old x) (Old r) (rule_meaning holds σ)
  joint_rule r x there σ mine one is = (
    record {
      same_constructor = is.constructor;
      same_guard = λ l dl. ap (formula_holds (λ b. holds b l)) is.guard ∙ ap (λ b. formula_holds (λ b. holds b l) r.rule.guard && b) (and_true (formula_holds (λ b. holds b l) σ.guard));
      same_demands = λ j. elim (cases_lt j (length r.rule.demands)) [
        | inl low ↦ is.each j low
        | inr past ↦ subst (λ ds. Match (IsAt names) ds (joint_demands r.rule σ j)) (sym (get_or_past x.rule.demands j [] (omega (arith, past, is.count))))
            (subst (Match (IsAt names) []) (sym (ap₂ (λ xs ys. firsts xs ++ seconds ys) (get_or_past r.rule.demands j [] past) (get_or_past σ.demands j [] (let w = wide r there σ mine one in omega (arith, past, w))))) (match_none (IsAt names)))
      ];
    },
    term_stands f.state r x there is.term,
  )

  many : length h.kept ≡ length f.sttr.rules
  many = h.are_kept.count

  kept_at : (q : ℕ) → q < length f.sttr.rules → get_or d.rules q [] ≡ get_or h.kept q []
  kept_at q low = ap (λ l. get_or l q []) (d_rules ∙ h.is) ∙ push_before h.kept h.joint q (omega (arith, low, many))

  joint_at : get_or d.rules n [] ≡ h.joint
  joint_at = ap (λ l. get_or l n []) (d_rules ∙ h.is) ∙ ap (λ k. get_or (h.kept ++ h.joint ∷ []) k []) (n_is ∙ sym many) ∙ push_at h.kept h.joint

  kept_all : (q : ℕ) → q < length f.sttr.rules → Match (IsKept make N.has eq names) (get_or h.kept q []) (get_or f.sttr.rules q [])
  kept_all q low = match_map (IsKept make N.has eq h.between) (IsKept make N.has eq names) (λ x r is. kept_wider make N.has eq (length f.sttr.looks.rules) (length a.sta.rules) old names grown x r (kept_wider make N.has eq (length f.sttr.looks.rules) (length a.sta.rules) h.between old (adds_extends h.between old _ h.are_joint.adds) x r is)) (get_or h.kept q []) (get_or f.sttr.rules q []) (h.are_kept.each q low)

  abbrev c : Trans A M
  c = record { sttr = d; state = n }

  joint_out : (x : OutRule Label) → Contains (out_rules (transducer_of holds make d) n) x → Contains (map Old h.joint) x
  joint_out x at = subst (λ l. Contains l x) (rules_meant holds make d n ∙ ap (map Old) joint_at) at

  joint_back : (x : OutRule Label) → Contains (map Old h.joint) x → Contains (out_rules (transducer_of holds make d) n) x
  joint_back x at = subst (λ l. Contains l x) (sym (rules_meant holds make d n ∙ ap (map Old) joint_at)) at

  pub restriction_built : IsBuiltRestriction R N.has (trans_at holds make f) (auto_at holds a) names (trans_at holds make (record { sttr = d; state = n }))
  restriction_built = record {
    look = subst (λ rs. IsBuiltLook R N.has F G names (map (map (rule_meaning holds)) rs)) (sym d_looks) (look_built is_put make N fits f.sttr (nothing_of a.sta) (HasOne IsSecond old) (HasOne IsMiddle old) old names rows all);
    looks_fit = every_name is_put make N fits f.sttr (nothing_of a.sta) (HasOne IsSecond old) (HasOne IsMiddle old) old names rows all (OfEither (trans_at holds make f) (auto_at holds a)) either;
    as_many = as_many_rules holds make d ∙ ap length (d_rules ∙ h.is) ∙ length-append h.kept (h.joint ∷ []) ∙ (let m = many in let w = as_many_rules holds make f.sttr in omega (arith, m, w));
    start = n_is ∙ sym (as_many_rules holds make f.sttr);
    old = λ q low. let lt = subst (λ k. q < k) (as_many_rules holds make f.sttr) low in
        subst (λ l. Match (IsOldRule R N.has (trans_at holds make f) (auto_at holds a) names) l (out_rules F q)) (sym (rules_meant holds make d q ∙ ap (map Old) (kept_at q lt)))
        (subst (λ l. Match (IsOldRule R N.has (trans_at holds make f) (auto_at holds a) names) (map Old (get_or h.kept q [])) l) (sym (rules_meant holds make f.sttr q))
        (match_mapped (IsKept make N.has eq names) (IsOldRule R N.has (trans_at holds make f) (auto_at holds a) names) Old Old (get_or h.kept q []) (get_or f.sttr.rules q []) (λ x r at mine is. old_rule q r x (lt, mine) is) (kept_all q lt)));
    only = λ x at.
        let (y, there, is) = of_mapped Old h.joint x (joint_out x at) in
        let (r, mine, σ, its, one, joint) = h.are_joint.only y there in
        (Old r, rule_over holds make f.sttr f.state r (start, mine), rule_meaning holds σ, its_in σ its, one, subst (λ z. IsJointRule R N.has (trans_at holds make f) (auto_at holds a) names z (Old r) (rule_meaning holds σ)) is (joint_rule r y (start, mine) σ its one (joint_wide y r σ joint)));
    all = λ ρ at τ its one.
        let (r, mine, is) = of_mapped Old (get_or f.sttr.rules f.state []) ρ (subst (λ l. Contains l ρ) (rules_meant holds make f.sttr f.state) at) in
        let (σ, its', is') = of_mapped (rule_meaning holds) (get_or a.sta.rules a.state []) τ (subst (λ l. Contains l τ) (rules_of_automaton holds a.sta a.state) its) in
        let same_one = ap (λ z. z.rule.constructor) is ∙ one ∙ sym (ap (λ z. z.constructor) is') in
        elim (h.are_joint.all r mine σ its' same_one) [
          | inl found ↦ (let (y, there, joint) = found in inl (Old y, joint_back (Old y) (to_mapped Old h.joint y there), subst (λ z. IsJointRule R N.has (trans_at holds make f) (auto_at holds a) names (Old y) z τ) is (subst (IsJointRule R N.has (trans_at holds make f) (auto_at holds a) names (Old y) (Old r)) is' (joint_rule r y (start, mine) σ its' same_one (joint_wide y r σ joint)))))
          | inr apart ↦ inr (subst (λ (z : OutRule Label). Never N.has (λ l. z.rule.guard l && τ.guard l)) is (subst (λ (z : Rule Label). Never N.has (λ l. (Old r).rule.guard l && z.guard l)) is' apart))
        ];
  }
    where
      its_in : (σ : PlainRule A) → Contains (get_or a.sta.rules a.state []) σ → Contains (rules_of (automaton_of holds a.sta) a.state) (rule_meaning holds σ)
      its_in σ its = subst (λ l. Contains l (rule_meaning holds σ)) (sym (rules_of_automaton holds a.sta a.state)) (to_mapped (rule_meaning holds) (get_or a.sta.rules a.state []) σ its)

      either : (x : LookName) → IsLookName holds make f.sttr (nothing_of a.sta) (HasOne IsSecond old) (HasOne IsMiddle old) x → OfEither (trans_at holds make f) (auto_at holds a) x
      either (of_first s) k = subst (λ n. s < n) (sym (length-map f.sttr.looks.rules (map (rule_meaning holds)))) k
      either (of_second s) k = subst (λ n. s < n) (sym (length-map a.sta.rules (map (rule_meaning holds)))) k.0
      either (middle q every) k = no_between k.2

  pub restriction_relation : IsRestricted make N f a (record { sttr = d; state = n })
  restriction_relation = record {
    exact = restriction_owed R N.has (trans_at holds make f) (auto_at holds a) names (trans_at holds make c) ok restriction_built;
    guards = λ l m dl dm on_f on_a. restriction_guards R N.has (trans_at holds make f) (auto_at holds a) names (trans_at holds make c) restriction_built l m dl dm on_f on_a;
    maps = restriction_maps R N.has (trans_at holds make f) (auto_at holds a) names (trans_at holds make c) restriction_built;
    linear = restriction_linear R N.has (trans_at holds make f) (auto_at holds a) names (trans_at holds make c) restriction_built;
  }

  pub restriction_fitting : SttrFits (transducer_of holds make d) R
  restriction_fitting = restriction_fits R N.has (trans_at holds make f) (auto_at holds a) names (trans_at holds make c) ok restriction_built

  abbrev Atom : A → Type 0
  Atom b = IsOldAtom N.equal f.sttr a.sta.rules b ⊎ IsAskedAtom N.equal f.sttr a.sta.rules b

  demands_low : (x : PlainRule A) (k : ℕ) (guard : Label → Bool) (W : ℕ → List LookName) → IsMadeRule R N.has F G names (rule_meaning holds x) k guard W → All (All (λ s. s < length names)) x.demands
  demands_low x k guard W is = each_to_all (Each (λ s. s < length names)) (All (λ s. s < length names)) (λ ds e. each_to_all (λ s. s < length names) (λ s. s < length names) (λ s low. low) ds e) x.demands (made_demands R N.has F G names (length names) refl (rule_meaning holds x) k guard W is)

  row_of : (q : ℕ) (r x : PlainOut (PlainRule A) M) → HasOutRule f.sttr q r → x.rule.constructor ≡ r.rule.constructor → length x.rule.demands ≡ length r.rule.demands → All (All (λ s. s < length names)) x.rule.demands → EveryAtom fits x.rule.guard → EveryAtom Atom x.rule.guard → IsTermCopy make N.has eq r.term x.term → RuleOver fits Atom (IsOldMap eq f.sttr) f.sttr (length names) x
  row_of q r x there e count low fit atoms term =
      let own = (stands_at holds make f.sttr stands q r there).rule in
      record {
        stands = record { constructor = subst (λ k. k < length R) (sym e) own.constructor; children = count ∙ own.children ∙ ap (λ k. get_or R k 0) (sym e); demands = low };
        fit = fit;
        atoms = atoms;
        maps = λ m o. let (i, at, alike) = term.maps m o in (i, (get_or f.sttr.rules q [], row_in f.sttr.rules q there.0, r, there.1, at), alike);
      }

  own_fit : (q : ℕ) (r : PlainOut (PlainRule A) M) → HasOutRule f.sttr q r → EveryAtom fits r.rule.guard
  own_fit q r there = guard_at fits f.sttr q r there guards

  own_atoms : (q : ℕ) (r : PlainOut (PlainRule A) M) → HasOutRule f.sttr q r → EveryAtom Atom r.rule.guard
  own_atoms q r there = every_own Atom r.rule.guard (λ b at. inl (b, inr (get_or f.sttr.rules q [], row_in f.sttr.rules q there.0, r, there.1, at), same b))

  kept_row : (q : ℕ) → q < length f.sttr.rules → (x : PlainOut (PlainRule A) M) → Contains (get_or h.kept q []) x → RuleOver fits Atom (IsOldMap eq f.sttr) f.sttr (length names) x
  kept_row q low x at =
      let (r, mine, is) = (kept_all q low).0 x at in
      row_of q r x (low, mine) is.rule.constructor is.rule.count (demands_low x.rule _ _ _ (old_rule q r x (low, mine) is).0) (subst (EveryAtom fits) (sym is.rule.guard) (own_fit q r (low, mine))) (subst (EveryAtom Atom) (sym is.rule.guard) (own_atoms q r (low, mine))) is.term

  joint_row : (x : PlainOut (PlainRule A) M) → Contains h.joint x → RuleOver fits Atom (IsOldMap eq f.sttr) f.sttr (length names) x
  joint_row x at =
      let (r, mine, σ, its, one, joint) = h.are_joint.only x at in
      let those = row_in a.sta.rules a.state state in
      let σ_fit = all_in (λ r. EveryAtom fits r.guard) (get_or a.sta.rules a.state []) (all_in (λ rules. All (λ r. EveryAtom fits r.guard) rules) a.sta.rules asked_fit (get_or a.sta.rules a.state []) those) σ its in
      let σ_atoms = every_own Atom σ.guard (λ b c. inr (b, (get_or a.sta.rules a.state [], those, σ, its, c), same b)) in
      row_of f.state r x (start, mine) joint.constructor joint.count (demands_low x.rule _ _ _ (joint_rule r x (start, mine) σ its one (joint_wide x r σ joint)).0)
      (subst (EveryAtom fits) (sym joint.guard) (own_fit f.state r (start, mine), (σ_fit, tt))) (subst (EveryAtom Atom) (sym joint.guard) (own_atoms f.state r (start, mine), (σ_atoms, tt))) joint.term

  kept_rows : All (All (RuleOver fits Atom (IsOldMap eq f.sttr) f.sttr (length names))) h.kept
  kept_rows = in_rows (RuleOver fits Atom (IsOldMap eq f.sttr) f.sttr (length names)) h.kept (λ q x low at. kept_row q (omega (arith, low, many)) x at)

  pub restriction_over : IsOver fits Atom (IsOldMap eq f.sttr) f.sttr d
  restriction_over = record {
    ranks = d_ranks;
    fit = subst (λ rs. All (λ rules. All (λ r. EveryAtom fits r.guard) rules) rs) (sym d_looks) (every_fit is_put make N fits f.sttr (nothing_of a.sta) (HasOne IsSecond old) (HasOne IsMiddle old) old names rows all);
    atoms = subst (λ rs. All (λ rules. All (λ r. EveryAtom Atom r.guard) rules) rs) (sym d_looks) (every_atom is_put make N fits f.sttr (nothing_of a.sta) (HasOne IsSecond old) (HasOne IsMiddle old) old names rows all Atom wide_atom);
    rules = subst (λ k. All (All (RuleOver fits Atom (IsOldMap eq f.sttr) f.sttr k)) d.rules) (sym all.count ∙ ap length (sym d_looks)) (subst (All (All (RuleOver fits Atom (IsOldMap eq f.sttr) f.sttr (length names)))) (sym (d_rules ∙ h.is))
        (all_both (All (RuleOver fits Atom (IsOldMap eq f.sttr) f.sttr (length names))) h.kept (h.joint ∷ []) kept_rows
        (in_all (All (RuleOver fits Atom (IsOldMap eq f.sttr) f.sttr (length names))) (h.joint ∷ []) (λ rs one. subst (All (RuleOver fits Atom (IsOldMap eq f.sttr) f.sttr (length names))) (in_single h.joint rs one) (in_all (RuleOver fits Atom (IsOldMap eq f.sttr) f.sttr (length names)) h.joint joint_row)))));
  }
    where
      wide_atom : (b : A) → IsLookAtom is_put make N fits f.sttr (nothing_of a.sta) (HasOne IsSecond old) (HasOne IsMiddle old) b → Atom b
      wide_atom b (inl is) = inl is
      wide_atom b (inr (inl (p, is))) = absurd (no_between p)
      wide_atom b (inr (inr (e, is))) = inr (own_asked a.sta N.equal is_put f.sttr b is)

  pub restriction_low : n < length d.rules
  restriction_low = let m = many in let e = ap length (d_rules ∙ h.is) ∙ length-append h.kept (h.joint ∷ []) in omega (arith, m, e, n_is)

-- all names that are added
pub all_added : {A M : Type 0} {make : M → Label → Label} {D : Label → Type 0} {eq : M → M → Bool} {n m : ℕ} {holds : A → Label → Bool} {old new : List LookName} {rows : List (List (PlainOut (PlainRule A) M))} {q : ℕ} {others : List (PlainRule A)} {made : List (List (PlainOut (PlainRule A) M))} → AreRestricted make D eq n m holds old new rows q others made → Adds old new (IsEither n m)
all_added {old = old} {new = new} h = adds_then old h.between new _ _ _ h.are_kept.adds h.are_joint.adds (λ x k. k) (λ x k. k)
