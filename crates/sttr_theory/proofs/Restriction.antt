-- Restriction: the rules of a start together with those of an automaton's.
use Rattle.std.proofs.Common.{ℕ, zero, suc, ◌≡◌, ◌⊎◌, ◌<◌, ◌↔◌, ◌&&◌, List, [], ◌++◌, get_or, length, Contains, sym, subst, ◌∙◌, inl, inr, arith}
use Rattle.std.proofs.lemmas.Bool.{and_parts, and_from}
use Rattle.model_tree.specs.Tree.{Tree, node, Trees, no_trees, tree}
use Rattle.model_sta.specs.Sets.{Fits, FitsAll}
use Rattle.model_sta.specs.Operations.{Auto, Has, OfState}
use Rattle.model_sttr.specs.Terms.{Term, Occurs, IsInstance, StandsFor}
use Rattle.model_sttr.specs.Transducer.{Head, identity, run, OutRule, Trans, out_rules, Gives, GivesAt, GivesSame, IsHead, SttrFits}
use Rattle.model_sttr.specs.Operations.{OfTransState, IsRestriction, asking}
use Rattle.model_sttr.proofs.Stands.{stands_out, stands_in, stands_occurs}
use Rattle.model_sttr.proofs.Heads.{in_range}
use Rattle.sttr_theory.specs.Lists.{IsAt}
use Rattle.sttr_theory.specs.Triples.{LookName, of_first, of_second, middle, firsts, seconds}
use Rattle.sttr_theory.specs.Results.{OfEither, IsOldHead, IsBuiltRestriction}
use Rattle.sttr_theory.proofs.Accept.{wants, applies_out, applies_in, has_out, has_in}
use Rattle.sttr_theory.proofs.Covers.{held}
use Rattle.sttr_theory.proofs.Places.{at_place, last_or_before}
use Rattle.sttr_theory.proofs.Looks.{ChildLooks, means_split, means_both, means_old_out, means_old_in, made_out, made_in, look_exact, looks_exact}

module _ {L : Type 0} (ranks : List ℕ) (D : L → Type 0) (f : Trans L) (a : Auto L) (looks : List LookName) (c : Trans L) (ok : SttrFits f.sttr ranks) (b : IsBuiltRestriction ranks D f a looks c) where
  -- old states on the children give what they gave
  abbrev ChildOld : Trees L → Type 0
  ChildOld ts = (h : Head) → IsHead f.sttr h → (j : ℕ) (v : Tree L) → GivesAt c.sttr h j ts v ↔ GivesAt f.sttr h j ts v

  module _ (k : ℕ) (l : L) (d : D l) (ts : Trees L) (kids : ChildOld ts) (child_looks : ChildLooks ranks D f.sttr (asking a.rules) looks c.sttr.looks ts) where
    term_out : (p q : Term Head (L → L)) (u : Tree L) → StandsFor (IsOldHead f.sttr) D p q → IsInstance (λ h j v. GivesAt c.sttr h j ts v) l p u → IsInstance (λ h j v. GivesAt f.sttr h j ts v) l q u
    term_out p q u s i = stands_out (IsOldHead f.sttr) D (λ h j v. GivesAt c.sttr h j ts v) (λ h j v. GivesAt f.sttr h j ts v) l d (λ h k j v r g. (kids k r.1 j v).0 (subst (λ n. GivesAt c.sttr n j ts v) r.0 g)) p q u s i

    term_in : (p q : Term Head (L → L)) (u : Tree L) → StandsFor (IsOldHead f.sttr) D p q → IsInstance (λ h j v. GivesAt f.sttr h j ts v) l q u → IsInstance (λ h j v. GivesAt c.sttr h j ts v) l p u
    term_in p q u s i = stands_in (IsOldHead f.sttr) D (λ h j v. GivesAt c.sttr h j ts v) (λ h j v. GivesAt f.sttr h j ts v) l d (λ h k j v r g. subst (λ n. GivesAt c.sttr n j ts v) (sym r.0) ((kids k r.1 j v).1 g)) p q u s i

    old_out : (q : ℕ) → q < length f.sttr.rules → (u : Tree L) → Gives c.sttr (run q) (node k l ts) u → Gives f.sttr (run q) (node k l ts) u
    old_out q lt u g =
        let (r, here, applies, i) = g in
        let (fires, acc) = applies_out c.sttr.looks k l ts r.rule applies in
        let (ρ, mine, (made, stands)) = (b.old q lt).0 r here in
        let (e, gu, m) = made_out ranks D f.sttr (asking a.rules) looks c.sttr.looks k l d ts child_looks r.rule ρ.rule.constructor ρ.rule.guard (λ j. firsts (get_or ρ.rule.demands j [])) made fires acc in
        (ρ, mine, applies_in f.sttr.looks k l ts ρ.rule (e, gu) (means_old_out ranks D f.sttr (asking a.rules) f.sttr.looks of_first (λ s t. (λ x. x, λ x. x)) (wants ρ.rule) ts m), term_out r.term ρ.term u stands i)

    old_in : (q : ℕ) → q < length f.sttr.rules → (u : Tree L) → Gives f.sttr (run q) (node k l ts) u → Gives c.sttr (run q) (node k l ts) u
    old_in q lt u g =
        let (ρ, mine, applies, i) = g in
        let (fires, acc) = applies_out f.sttr.looks k l ts ρ.rule applies in
        let (r, here, (made, stands)) = (b.old q lt).1 ρ mine in
        let (fires', acc') = made_in ranks D f.sttr (asking a.rules) looks c.sttr.looks k l d ts child_looks r.rule ρ.rule.constructor ρ.rule.guard (λ j. firsts (get_or ρ.rule.demands j [])) made fires.0 fires.1
        (means_old_in ranks D f.sttr (asking a.rules) f.sttr.looks of_first (λ s t. (λ x. x, λ x. x)) (wants ρ.rule) ts acc) in
        (r, here, applies_in c.sttr.looks k l ts r.rule fires' acc', term_in r.term ρ.term u stands i)

    start_out : (u : Tree L) → Gives c.sttr (run c.start) (node k l ts) u → Gives f.sttr (run f.start) (node k l ts) u × Has a.rules a.start (node k l ts)
    start_out u g =
        let (r, here, applies, i) = g in
        let (fires, acc) = applies_out c.sttr.looks k l ts r.rule applies in
        let (ρ, mine, σ, its, same, (made, stands)) = b.only r here in
        let (e, gu, m) = made_out ranks D f.sttr (asking a.rules) looks c.sttr.looks k l d ts child_looks r.rule ρ.rule.constructor (λ l. ρ.rule.guard l && σ.guard l) (λ j. firsts (get_or ρ.rule.demands j []) ++ seconds (get_or σ.demands j [])) made fires acc in
        let (gρ, gσ) = and_parts (ρ.rule.guard l) (σ.guard l) gu in
        let (mρ, mσ) = means_split ranks D f.sttr (asking a.rules) (λ j. firsts (get_or ρ.rule.demands j [])) (λ j. seconds (get_or σ.demands j [])) ts m in (
          (ρ, mine, applies_in f.sttr.looks k l ts ρ.rule (e, gρ) (means_old_out ranks D f.sttr (asking a.rules) f.sttr.looks of_first (λ s t. (λ x. x, λ x. x)) (wants ρ.rule) ts mρ), term_out r.term ρ.term u stands i),
          has_in a.rules k l ts a.start σ its (sym same ∙ e, gσ) (means_old_out ranks D f.sttr (asking a.rules) a.rules of_second (λ s t. (λ x. x, λ x. x)) (wants σ) ts mσ),
        )

    start_in : (u : Tree L) → Gives f.sttr (run f.start) (node k l ts) u → Has a.rules a.start (node k l ts) → Gives c.sttr (run c.start) (node k l ts) u
    start_in u g h =
        let (ρ, mine, applies, i) = g in
        let (fires, acc) = applies_out f.sttr.looks k l ts ρ.rule applies in
        let (σ, its, fires', acc') = has_out a.rules k l ts a.start h in
        let (r, here, (made, stands)) = held D (λ l. ρ.rule.guard l && σ.guard l) l d (and_from (ρ.rule.guard l) (σ.guard l) fires.1 fires'.1) (b.all ρ mine σ its (fires.0 ∙ sym fires'.0)) in
        let (fr, ar) = made_in ranks D f.sttr (asking a.rules) looks c.sttr.looks k l d ts child_looks r.rule ρ.rule.constructor (λ l. ρ.rule.guard l && σ.guard l) (λ j. firsts (get_or ρ.rule.demands j []) ++ seconds (get_or σ.demands j [])) made fires.0 (and_from (ρ.rule.guard l) (σ.guard l) fires.1 fires'.1)
        (means_both ranks D f.sttr (asking a.rules) (λ j. firsts (get_or ρ.rule.demands j [])) (λ j. seconds (get_or σ.demands j [])) ts
        (means_old_in ranks D f.sttr (asking a.rules) f.sttr.looks of_first (λ s t. (λ x. x, λ x. x)) (wants ρ.rule) ts acc)
        (means_old_in ranks D f.sttr (asking a.rules) a.rules of_second (λ s t. (λ x. x, λ x. x)) (wants σ) ts acc')) in
        (r, here, applies_in c.sttr.looks k l ts r.rule fr ar, term_in r.term ρ.term u stands i)

  same_identity : (t u : Tree L) → Gives c.sttr identity t u ↔ Gives f.sttr identity t u
  same_identity (node k l ts) u = (λ x. x, λ x. x)

  mutual
    -- old states give what they gave
    pub old_exact : (t : Tree L) → Fits ranks D t → (h : Head) → IsHead f.sttr h → (u : Tree L) → Gives c.sttr h t u ↔ Gives f.sttr h t u
    old_exact t ty identity is u = same_identity t u
    old_exact (node k l ts) ty (run q) lt u =
        let kids : ChildOld ts = olds_exact ts ty.3 in
        let child_looks = looks_exact ranks D f.sttr (asking a.rules) looks c.sttr.looks ok b.look ts ty.3 in
        (λ g. old_out k l ty.1 ts kids child_looks q lt u g, λ g. old_in k l ty.1 ts kids child_looks q lt u g)

    pub olds_exact : (ts : Trees L) → FitsAll ranks D ts → ChildOld ts
    olds_exact no_trees ty h is j v = (λ x. x, λ x. x)
    olds_exact (tree t ts) ty h is zero v = old_exact t ty.0 h is v
    olds_exact (tree t ts) ty h is (suc j) v = olds_exact ts ty.1 h is j v

  pub start_exact : (t : Tree L) → Fits ranks D t → (u : Tree L) → Gives c.sttr (run c.start) t u ↔ (Gives f.sttr (run f.start) t u × Has a.rules a.start t)
  start_exact (node k l ts) ty u =
      let kids : ChildOld ts = olds_exact ts ty.3 in
      let child_looks = looks_exact ranks D f.sttr (asking a.rules) looks c.sttr.looks ok b.look ts ty.3 in
      (λ g. start_out k l ty.1 ts kids child_looks u g, λ x. start_in k l ty.1 ts kids child_looks u x.0 x.1)

  look_owed : (x : LookName) → OfEither f a x → (i : ℕ) → IsAt looks i x → OfState (Fits ranks D) f.sttr.looks (Has c.sttr.looks i) ⊎ OfState (Fits ranks D) a.rules (Has c.sttr.looks i)
  look_owed (of_first s) fits i at = inl (s, fits, λ t ty. look_exact ranks D f.sttr (asking a.rules) looks c.sttr.looks ok b.look t ty i (of_first s) at)
  look_owed (of_second s) fits i at = inr (s, fits, λ t ty. look_exact ranks D f.sttr (asking a.rules) looks c.sttr.looks ok b.look t ty i (of_second s) at)
  look_owed (middle q all) fits i at = absurd fits

  state_owed : (q : ℕ) → (q ≡ length f.sttr.rules) ⊎ (q < length f.sttr.rules) → (q ≡ c.start) ⊎ OfTransState (Fits ranks D) f.sttr (Gives c.sttr (run q))
  state_owed q (inl e) = inl (e ∙ sym b.start)
  state_owed q (inr lt) = inr (q, lt, λ t u ty. old_exact t ty (run q) lt u)

  below : (q : ℕ) → q < length c.sttr.rules → (q ≡ length f.sttr.rules) ⊎ (q < length f.sttr.rules)
  below q lt = last_or_before (length f.sttr.rules) q (subst (λ n. q < n) b.as_many lt)

  term_same : (r ρ : OutRule L) (q j : ℕ) → Contains (out_rules f.sttr q) ρ → StandsFor (IsOldHead f.sttr) D r.term ρ.term → Occurs identity j r.term → GivesSame f.sttr
  term_same r ρ q j mine s o = let (k, (e, is), there) = stands_occurs (IsOldHead f.sttr) D identity j r.term ρ.term s o in (q, ρ, mine, j, subst (λ h. Occurs h j ρ.term) (sym e) there)

  same_owed : (q : ℕ) → (q ≡ length f.sttr.rules) ⊎ (q < length f.sttr.rules) → (r : OutRule L) → Contains (out_rules c.sttr q) r → (j : ℕ) → Occurs identity j r.term → GivesSame f.sttr
  same_owed q (inl e) r here j o =
      let (ρ, mine, σ, its, same, (made, stands)) = b.only r (subst (λ n. Contains (out_rules c.sttr n) r) (e ∙ sym b.start) here) in
      term_same r ρ f.start j mine stands o
  same_owed q (inr lt) r here j o = let (ρ, mine, (made, stands)) = (b.old q lt).0 r here in term_same r ρ q j mine stands o

  pub restriction_owed : IsRestriction (Fits ranks D) f a c
  restriction_owed = record {
    in_range = subst (λ n. n < length c.sttr.rules) (sym b.start) (subst (λ n. length f.sttr.rules < n) (sym b.as_many) (omega arith));
    means = λ t u ty. start_exact t ty u;
    each_state = λ q lt. state_owed q (below q lt);
    each_look = λ q lt. let (x, at) = at_place looks q (subst (λ n. q < n) b.look.as_many lt) in look_owed x (b.looks_fit q x at) q at;
    gives_same = λ g. let (q, r, here, j, o) = g in same_owed q (below q (in_range c.sttr.rules q r here)) r here j o;
  }
