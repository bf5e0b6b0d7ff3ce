-- The relation of each state of a transducer that is built.
use Rattle.std.proofs.Common.{◌&&◌, ℕ, zero, suc, ◌≡◌, ◌⊎◌, ◌<◌, ◌↔◌, List, [], get_or, length, Option, Some, None, Contains, sym, subst, ◌∙◌}
use Rattle.std.proofs.lemmas.Bool.{and_from}
use Rattle.model_tree.specs.Tree.{Tree, node, Trees, no_trees, tree}
use Rattle.model_sta.specs.Sets.{width, Fits, FitsAll}
use Rattle.model_sttr.specs.Terms.{Term, IsInstance, IsLinear}
use Rattle.model_sttr.specs.Transducer.{Head, identity, run, OutRule, Sttr, out_rules, Gives, GivesAt, AllLinear, IsFunctionalOn, SttrFits}
use Rattle.model_sttr.proofs.Stands.{stands_out, stands_in, stands_linear}
use Rattle.model_sttr.proofs.Heads.{identity_eq, in_range}
use Rattle.sttr_theory.specs.Lists.{IsAt}
use Rattle.sttr_theory.specs.Triples.{Triple, Through, ThroughAt, Yields, CanReturn, IsTermFor, LookName}
use Rattle.sttr_theory.specs.Built.{IsNamed, IsWayTerm, IsRuleOf, AreOutRules, IsBuilt}
use Rattle.sttr_theory.proofs.Accept.{applies_out, applies_in}
use Rattle.sttr_theory.proofs.Covers.{held}
use Rattle.sttr_theory.proofs.Complete.{identity_refl}
use Rattle.sttr_theory.proofs.Kept.{kept_linear}
use Rattle.sttr_theory.proofs.Places.{at_place}
use Rattle.sttr_theory.proofs.Heads.{Does, rule_out, rule_in, plan}
use Rattle.sttr_theory.proofs.Looks.{ChildLooks, asks_range, way_out, way_in, looks_exact}

module _ {L : Type 0} (ranks : List ℕ) (D : L → Type 0) (S T : Sttr L) where
  -- the identity on a child is the triple of two identities
  pub same_out : (F : Sttr L) (j : ℕ) (ts : Trees L) (v : Tree L) → GivesAt F identity j ts v → ThroughAt S T ts (record { first = identity; all = []; second = Some identity }) j v
  same_out F j no_trees v r = absurd r
  same_out F zero (tree t ts) v r = (t, identity_refl S t, tt, subst (Gives T identity t) (identity_eq F t v r) (identity_refl T t))
  same_out F (suc j) (tree t ts) v r = same_out F j ts v r

  pub same_in : (F : Sttr L) (j : ℕ) (ts : Trees L) (v : Tree L) → ThroughAt S T ts (record { first = identity; all = []; second = Some identity }) j v → GivesAt F identity j ts v
  same_in F j no_trees v r = r.1
  same_in F zero (tree t ts) v r =
      let (u, gives, has, end) = r in
      subst (Gives F identity t) (identity_eq S t u gives ∙ identity_eq T u v end) (identity_refl F t)
  same_in F (suc j) (tree t ts) v r = same_in F j ts v r

  module _ (looks : List LookName) (names : List Triple) (F : Sttr L) where
    -- the states of the transducer on the children, by their names
    abbrev pub ChildGives : Trees L → Type 0
    ChildGives ts = (q : ℕ) (x : Triple) → IsAt names q x → (j : ℕ) (v : Tree L) → GivesAt F (run q) j ts v ↔ ThroughAt S T ts x j v

    module _ (ts : Trees L) (kids : ChildGives ts) where
      named_out : (h : Head) (x : Triple) (j : ℕ) (v : Tree L) → IsNamed ranks D S T names h x → GivesAt F h j ts v → ThroughAt S T ts x j v
      named_out identity x j v e g = subst (λ y. ThroughAt S T ts y j v) e (same_out F j ts v g)
      named_out (run q) x j v at g = (kids q x at j v).0 g

      named_in : (h : Head) (x : Triple) (j : ℕ) (v : Tree L) → IsNamed ranks D S T names h x → ThroughAt S T ts x j v → GivesAt F h j ts v
      named_in identity x j v e g = same_in F j ts v (subst (λ y. ThroughAt S T ts y j v) (sym e) g)
      named_in (run q) x j v at g = (kids q x at j v).1 g

      pub term_out : (l : L) → D l → (p : Term Head (L → L)) (y : Option (Term Triple (L → L))) (w : Tree L) → IsWayTerm ranks D S T names p y → IsInstance (λ h j v. GivesAt F h j ts v) l p w → Yields S T l ts y w
      term_out l d p None w is i = absurd is
      term_out l d p (Some z) w is i = stands_out (IsNamed ranks D S T names) D (λ h j v. GivesAt F h j ts v) (λ x j v. ThroughAt S T ts x j v) l d (λ h x j v r g. named_out h x j v r g) p z w is i

      pub term_in : (l : L) → D l → (p : Term Head (L → L)) (y : Option (Term Triple (L → L))) (w : Tree L) → IsWayTerm ranks D S T names p y → Yields S T l ts y w → IsInstance (λ h j v. GivesAt F h j ts v) l p w
      term_in l d p None w is i = absurd is
      term_in l d p (Some z) w is i = stands_in (IsNamed ranks D S T names) D (λ h j v. GivesAt F h j ts v) (λ x j v. ThroughAt S T ts x j v) l d (λ h x j v r g. named_in h x j v r g) p z w is i

      module _ (c : ℕ) (l : L) (d : D l) (ok : SttrFits S ranks) (wide : width ts ≡ get_or ranks c 0) (child_looks : ChildLooks ranks D S T looks F.looks ts) where
        pub out_state_out : (rs : List (OutRule L)) (x : Triple) (w : Tree L) → AreOutRules ranks D S T looks names rs x → CanReturn S T ts x.second → (r : OutRule L) → Contains rs r → Does ranks D F F c l ts w r → Through S T x (node c l ts) w
        out_state_out rs x w are can r here does =
            let (ρ, is, ys, ways, y, mine, (made, stands)) = are.only r here in
            let (fires', acc', g, met) = way_out ranks D S T looks F.looks c l d ts child_looks ok wide r.rule x.first ρ is y (ways.fit y mine).demands made does.0 does.1 in
            let (u, i, has, end) = ways.only l d ts w (asks_range ranks D S T looks F.looks c l d ts child_looks ok wide x.first ρ is fires'.0) can y mine (g, met, term_out l d r.term y.term w stands does.2) in
            (u, rule_in ranks D S T c l ts u x.first wide ρ is (fires', acc', i), has, end)

        pub out_state_in : (rs : List (OutRule L)) (x : Triple) (w : Tree L) → AreOutRules ranks D S T looks names rs x → c < length ranks → Through S T x (node c l ts) w → (r : OutRule L) × Contains rs r × Does ranks D F F c l ts w r
        out_state_in rs x w are lt m =
            let (u, gives, has, end) = m in
            let (ρ, is, (fires, acc, i)) = rule_out ranks D S T c l ts u x.first lt wide gives in
            let (ys, ways, each) = are.all ρ is in
            let (y, mine, (g, met, yields)) = ways.all l d ts w (u, i, has, end) in
            let (r, here, (made, stands)) = held D (λ l. ρ.rule.guard l && y.guard l) l d (and_from (ρ.rule.guard l) (y.guard l) fires.1 g) (each y mine) in
            let (fires', acc') = way_in ranks D S T looks F.looks c l d ts child_looks ok wide r.rule ρ y made fires acc g met in
            (r, here, (fires', acc', term_in l d r.term y.term w stands yields))

    can_return : (ts : Trees L) → FitsAll ranks D ts → IsFunctionalOn S (Fits ranks D) ⊎ AllLinear T → (k : Option Head) → CanReturn S T ts k
    can_return ts ty p None = tt
    can_return ts ty p (Some identity) = tt
    can_return ts ty p (Some (run q)) = plan ranks D S T ts ty p

    module _ (ok : SttrFits S ranks) (can : IsFunctionalOn S (Fits ranks D) ⊎ AllLinear T) (built : IsBuilt ranks D S T looks names F) where
      mutual
        -- each state has the relation of its name
        pub out_exact : (t : Tree L) → Fits ranks D t → (q : ℕ) (x : Triple) → IsAt names q x → (w : Tree L) → Gives F (run q) t w ↔ Through S T x t w
        out_exact (node c l ts) ty q x at w =
            let kids : ChildGives ts = outs_exact ts ty.3 in
            let child_looks = looks_exact ranks D S T looks F.looks ok built.look ts ty.3 in (
              (λ g. let (r, here, applies, i) = g in
                  let (fires, acc) = applies_out F.looks c l ts r.rule applies in
                  out_state_out ts kids c l ty.1 ok ty.2 child_looks (out_rules F q) x w (built.each q x at) (can_return ts ty.3 can x.second) r here (fires, acc, i)),
              (λ m. let (r, here, (fires, acc, i)) = out_state_in ts kids c l ty.1 ok ty.2 child_looks (out_rules F q) x w (built.each q x at) ty.0 m in
                  (r, here, applies_in F.looks c l ts r.rule fires acc, i)),
            )

        pub outs_exact : (ts : Trees L) → FitsAll ranks D ts → ChildGives ts
        outs_exact no_trees ty q x at j v = (λ a. absurd a, λ m. m.1)
        outs_exact (tree t ts) ty q x at zero v = out_exact t ty.0 q x at v
        outs_exact (tree t ts) ty q x at (suc j) v = outs_exact ts ty.1 q x at j v

    -- the rules of linear ones use no child twice
    rule_linear : AllLinear S → (h : Head) (ρ : OutRule L) → IsRuleOf ranks D S T h ρ → IsLinear ρ.term
    rule_linear lin identity ρ is = let (c, lt, e) = is in subst (λ r. IsLinear r.term) (sym e) (kept_linear (L → L) 0 (get_or ranks c 0))
    rule_linear lin (run q) ρ here = lin q ρ here

    way_linear : (p : Term Head (L → L)) (x : Triple) (r : Term Head (L → L)) (y : Option (Term Triple (L → L))) → IsLinear p → AllLinear T → IsTermFor S T p x y → IsWayTerm ranks D S T names r y → IsLinear r
    way_linear p x r None lp lT is stands = absurd stands
    way_linear p x r (Some z) lp lT is stands = stands_linear (IsNamed ranks D S T names) D r z stands (is.2 lp lT)

    pub built_linear : IsBuilt ranks D S T looks names F → AllLinear S → AllLinear T → AllLinear F
    built_linear built lS lT q r here =
        let (x, at) = at_place names q (subst (λ n. q < n) built.as_many (in_range F.rules q r here)) in
        let (ρ, is, ys, ways, y, mine, (made, stands)) = (built.each q x at).only r here in
        way_linear ρ.term x r.term y.term (rule_linear lS x.first ρ is) lT (ways.fit y mine).term stands
