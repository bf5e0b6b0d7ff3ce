-- The rules of what is built fit.
use Rattle.std.specs.Prelude.{Bool}
use Rattle.std.proofs.Common.{ℕ, suc, ◌≡◌, ◌⊎◌, ◌<◌, ◌&&◌, List, [], ◌++◌, get_or, length, Option, Some, None, Contains, sym, subst, ◌∙◌, inl, inr, arith}
use Rattle.model_sta.specs.Automaton.{Rule, rules_of}
use Rattle.model_sta.specs.Sets.{Each}
use Rattle.model_sta.specs.Told.{AreOwn}
use Rattle.model_sta.specs.Operations.{Auto}
use Rattle.model_sttr.specs.Terms.{Term, Occurs, Uses, StandsFor}
use Rattle.model_sttr.specs.Transducer.{Head, identity, run, OutRule, Sttr, Trans, out_rules, IsHead, OutRuleFits, SttrFits}
use Rattle.model_sttr.specs.Operations.{asking}
use Rattle.model_sttr.proofs.Instances.{occurs_uses}
use Rattle.model_sttr.proofs.Stands.{stands_uses, stands_occurs}
use Rattle.model_sttr.proofs.Heads.{in_range}
use Rattle.sttr_theory.specs.Triples.{Triple, IsTermFor, LookName, of_first, of_second, middle, firsts, seconds, asked}
use Rattle.sttr_theory.specs.Built.{IsMadeRule, IsNamed, IsWayTerm, AreLookRules, IsBuiltLook, IsBuilt}
use Rattle.sttr_theory.specs.Results.{IsOldHead, IsBuiltRestriction}
use Rattle.sttr_theory.proofs.Each.{each_all, each_place, each_get, each_at}
use Rattle.sttr_theory.proofs.Fitting.{uses_occurs}
use Rattle.sttr_theory.proofs.Places.{at_place, last_or_before}
use Rattle.sttr_theory.proofs.Heads.{rule_range}

module _ {L : Type 0} (ranks : List ℕ) (D : L → Type 0) (f g : Sttr L) where
  -- the demands of a made rule are states
  pub made_demands : (names : List LookName) (n : ℕ) → n ≡ length names → (r : Rule L) (c : ℕ) (guard : L → Bool) (W : ℕ → List LookName) → IsMadeRule ranks D f g names r c guard W → Each (Each (λ s. s < n)) r.demands
  made_demands names n e r c guard W is =
      each_place (λ s. s < n) r.demands (λ j. each_all (λ s. s < n) (get_or r.demands j []) (λ s at. let (x, there, named) = (is.same_demands j).0 s at in subst (λ k. s < k) (sym e) named.0))

  look_demands : (names : List LookName) (n : ℕ) → n ≡ length names → (rs : List (Rule L)) (x : LookName) → AreLookRules ranks D f g names rs x → (r : Rule L) → Contains rs r → Each (Each (λ s. s < n)) r.demands
  look_demands names n e rs (of_first s) are r here = let (ρ, mine, made) = are.0 r here in made_demands names n e r ρ.constructor ρ.guard (λ j. firsts (get_or ρ.demands j [])) made
  look_demands names n e rs (of_second s) are r here = let (ρ, mine, made) = are.0 r here in made_demands names n e r ρ.constructor ρ.guard (λ j. seconds (get_or ρ.demands j [])) made
  look_demands names n e rs (middle q all) are r here =
      let (ρ, rule, ys, ways, y, mine, made) = are.only r here in
      made_demands names n e r ρ.rule.constructor (λ l. ρ.rule.guard l && y.guard l) (λ j. firsts (get_or ρ.rule.demands j []) ++ asked (get_or y.demands j [])) made

  pub looks_fit : (names : List LookName) (looks : List (List (Rule L))) → IsBuiltLook ranks D f g names looks → (s : ℕ) (r : Rule L) → Contains (rules_of looks s) r → Each (Each (λ s. s < length looks)) r.demands
  looks_fit names looks built s r here =
      let (x, at) = at_place names s (subst (λ n. s < n) built.as_many (in_range looks s r here)) in
      look_demands names (length looks) built.as_many (rules_of looks s) x (built.each s x at) r here

  pub looks_own : (names : List LookName) (looks : List (List (Rule L))) → IsBuiltLook ranks D f g names looks → AreOwn looks
  looks_own names looks built s r here j t c = each_at (λ t. t < length looks) (get_or r.demands j []) t (each_get (λ t. t < length looks) r.demands j (looks_fit names looks built s r here)) c

  module _ (ok : SttrFits f ranks) (looks : List LookName) (names : List Triple) (c : Sttr L) (built : IsBuilt ranks D f g looks names c) where
    -- a head is one of the built transducer
    named_head : (q : ℕ) (r : OutRule L) → Contains (out_rules c q) r → (h : Head) (j : ℕ) → Occurs h j r.term → (x : Triple) → IsNamed ranks D f g names h x → IsHead c h
    named_head q r here identity j o x named = (q, r, here, j, o)
    named_head q r here (run q') j o x named = subst (λ n. q' < n) (sym built.as_many) named.0

    way_heads : (q : ℕ) (r : OutRule L) → Contains (out_rules c q) r → (y : Option (Term Triple (L → L))) → IsWayTerm ranks D f g names r.term y → (h : Head) (j : ℕ) → Occurs h j r.term → IsHead c h
    way_heads q r here None is h j o = absurd is
    way_heads q r here (Some z) is h j o = let (x, named, there) = stands_occurs (IsNamed ranks D f g names) D h j r.term z is o in named_head q r here h j o x named

    way_children : (p r : Term Head (L → L)) (x : Triple) (y : Option (Term Triple (L → L))) → IsTermFor f g p x y → IsWayTerm ranks D f g names r y → (j : ℕ) → Uses j r → Uses j p
    way_children p r x None fits is j u = absurd is
    way_children p r x (Some z) fits is j u =
        let (d, o) = uses_occurs j z (stands_uses (IsNamed ranks D f g names) D j r z is u) in
        occurs_uses d.first j p (fits.1 d j o).0.0

    pub built_fits : SttrFits c ranks
    built_fits = record {
      looks = looks_fit looks c.looks built.look;
      rules = λ q r here.
          let (x, at) = at_place names q (subst (λ n. q < n) built.as_many (in_range c.rules q r here)) in
          let (ρ, rule, ys, ways, y, mine, (made, stands)) = (built.each q x at).only r here in
          record {
            children = λ j u. subst (λ n. j < get_or ranks n 0) (sym made.same_constructor) (rule_range ranks D f g ok x.first ρ rule j (way_children ρ.term r.term x y.term (ways.fit y mine).term stands j u));
            heads = λ h j o. way_heads q r here y.term stands h j o;
            demands = made_demands looks (length c.looks) built.look.as_many r.rule ρ.rule.constructor (λ l. ρ.rule.guard l && y.guard l) (λ j. firsts (get_or ρ.rule.demands j []) ++ asked (get_or y.demands j [])) made;
          };
    }

module _ {L : Type 0} (ranks : List ℕ) (D : L → Type 0) (f : Trans L) (a : Auto L) (looks : List LookName) (c : Trans L) (ok : SttrFits f.sttr ranks) (b : IsBuiltRestriction ranks D f a looks c) where
  old_head : (q : ℕ) (r : OutRule L) → Contains (out_rules c.sttr q) r → (h k : Head) (j : ℕ) → Occurs h j r.term → h ≡ k → IsHead f.sttr k → IsHead c.sttr h
  old_head q r here identity k j o e is = (q, r, here, j, o)
  old_head q r here (run q') identity j o e is = cc
  old_head q r here (run q') (run q2) j o e is = subst (λ n. q' < n) (sym b.as_many) (suc_more q' (length f.sttr.rules) (same_number e))
    where
      same : (x y : ℕ) → run x ≡ run y → x ≡ y
      same x y e = cc

      same_number : run q' ≡ run q2 → q' < length f.sttr.rules
      same_number e = subst (λ n. n < length f.sttr.rules) (sym (same q' q2 e)) is

      suc_more : (x n : ℕ) → x < n → x < suc n
      suc_more x n lt = omega (arith, lt)

  -- a rule with the term of one of f's
  fits_by : (q : ℕ) (r : OutRule L) → Contains (out_rules c.sttr q) r → (q' : ℕ) (ρ : OutRule L) → Contains (out_rules f.sttr q') ρ → r.rule.constructor ≡ ρ.rule.constructor → StandsFor (IsOldHead f.sttr) D r.term ρ.term
      → Each (Each (λ s. s < length c.sttr.looks)) r.rule.demands → OutRuleFits c.sttr ranks r
  fits_by q r here q' ρ mine e stands demands = record {
    children = λ j u. subst (λ n. j < get_or ranks n 0) (sym e) ((ok.rules q' ρ mine).children j (stands_uses (IsOldHead f.sttr) D j r.term ρ.term stands u));
    heads = λ h j o. let (k, (same, is), there) = stands_occurs (IsOldHead f.sttr) D h j r.term ρ.term stands o in old_head q r here h k j o same is;
    demands = demands;
  }

  rule_fits : (q : ℕ) (r : OutRule L) → Contains (out_rules c.sttr q) r → (q ≡ length f.sttr.rules) ⊎ (q < length f.sttr.rules) → OutRuleFits c.sttr ranks r
  rule_fits q r here (inl e) =
      let (ρ, mine, σ, its, same, (made, stands)) = b.only r (subst (λ n. Contains (out_rules c.sttr n) r) (e ∙ sym b.start) here) in
      fits_by q r here f.start ρ mine made.same_constructor stands
      (made_demands ranks D f.sttr (asking a.rules) looks (length c.sttr.looks) b.look.as_many r.rule ρ.rule.constructor (λ l. ρ.rule.guard l && σ.guard l) (λ j. firsts (get_or ρ.rule.demands j []) ++ seconds (get_or σ.demands j [])) made)
  rule_fits q r here (inr lt) =
      let (ρ, mine, (made, stands)) = (b.old q lt).0 r here in
      fits_by q r here q ρ mine made.same_constructor stands
      (made_demands ranks D f.sttr (asking a.rules) looks (length c.sttr.looks) b.look.as_many r.rule ρ.rule.constructor ρ.rule.guard (λ j. firsts (get_or ρ.rule.demands j [])) made)

  pub restriction_fits : SttrFits c.sttr ranks
  restriction_fits = record {
    looks = looks_fit ranks D f.sttr (asking a.rules) looks c.sttr.looks b.look;
    rules = λ q r here. rule_fits q r here (last_or_before (length f.sttr.rules) q (subst (λ n. q < n) b.as_many (in_range c.sttr.rules q r here)));
  }
