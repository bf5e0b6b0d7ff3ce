-- The lists of ways are the ways.
use Rattle.std.specs.Prelude.{⊤}
use Rattle.std.proofs.Common.{ℕ, zero, suc, ◌≡◌, ◌⊎◌, ◌<◌, List, [], get_or, Option, Some, None, ◌↔◌, ◌∙◌, Contains, refl, sym, subst, inl, inr, ap}
use Rattle.model_tree.specs.Tree.{Tree, Trees, no_trees, tree}
use Rattle.model_sta.specs.Sets.{Each, width}
use Rattle.model_sta.specs.Operations.{AreStates}
use Rattle.model_sttr.specs.Terms.{Term, Occurs, IsLinear}
use Rattle.model_sttr.specs.Transducer.{Head, identity, run, Sttr, Gives, GivesAt, AllLinear, SttrFits, IsHead}
use Rattle.model_sttr.proofs.Heads.{identity_eq}
use Rattle.model_sttr.proofs.Instances.{occurs_uses}
use Rattle.sttr_theory.specs.Guards.{MakesIn, AgreeMade, IsChainOver}
use Rattle.sttr_theory.specs.Triples.{Triple, Way, Middle, asked, AreMet, ThroughAt, Works, HasChildren, CanReturn, IsAsked, WayFits, AreWays}
use Rattle.sttr_theory.specs.Ways.{WayOf, free_ways, gives_ways, free_way, giving_way, ways_for, ways}
use Rattle.sttr_theory.proofs.Members.{to_mapped, of_mapped}
use Rattle.sttr_theory.proofs.Each.{each_map, each_at}
use Rattle.sttr_theory.proofs.Runs.{free, gives, Kid, Premise}
use Rattle.sttr_theory.proofs.Complete.{complete}
use Rattle.sttr_theory.proofs.Asked.{IsMet, mets_out, mets_in, asks_named}
use Rattle.sttr_theory.proofs.Sound.{sound}
use Rattle.sttr_theory.proofs.OneOf.{member, of_member, EachAt}
use Rattle.sttr_theory.proofs.WaysIff.{WorksBy, TermGives, free_iff, gives_iff}
use Rattle.sttr_theory.proofs.Fitting.{Asks, Good, Next, free_asks, gives_good}
use Rattle.sttr_theory.proofs.GuardsOfWays.{Steady, free_steady, gives_steady, MapsIn, gives_maps}

module _ {L : Type 0} (S T : Sttr L) where
  -- of a child that is given unchanged the demands can be asked apart
  same_kid : (ts : Trees L) (Z : List ℕ) (j : ℕ) (k : Head) (w : Tree L)
      → (Kid T (λ h j v. GivesAt S h j ts v) identity Z free j × Kid T (λ h j v. GivesAt S h j ts v) identity [] (gives k w) j) ↔ Kid T (λ h j v. GivesAt S h j ts v) identity Z (gives k w) j
  same_kid no_trees Z j k w = (λ a. absurd a.0.1, λ a. absurd a.1)
  same_kid (tree t ts) Z zero k w = (
    λ a. let ((u, e, has), (u', e', none, end)) = a in (u, e, has, subst (λ x. Gives T k x w) (sym (identity_eq S t u' e') ∙ identity_eq S t u e) end),
    λ a. let (u, e, has, end) = a in ((u, e, has), (u, e, tt, end)),
  )
  same_kid (tree t ts) Z (suc j) k w = same_kid ts Z j k w

module _ {L : Type 0} (S T : Sttr L) (p : Term Head (L → L)) (h : Head) (Z : List ℕ) where
  abbrev Asked : Option Head → Triple
  Asked k = record { first = h; all = Z; second = k }

  -- each demanded triple stands at its child in the term
  abbrev AsksIn : List (List Triple) → Type 0
  AsksIn demands = EachAt (λ j d. Occurs d.first j p × AreStates T.looks d.all) demands

  module _ (l : L) (ts : Trees L) (w : Tree L) where
    abbrev Given : Head → ℕ → Tree L → Type 0
    Given h' j v = GivesAt S h' j ts v

    abbrev WorksFree : WayOf L ⊤ → Type 0
    WorksFree = WorksBy T (Kid T Given) (λ j d. IsMet S T ts j d) (λ x j v. ThroughAt S T ts x j v) l (λ h' Z' j. (λ a. a, λ a. a)) (λ h' Z' k j v. (λ a. a, λ a. a)) (λ Z' j k v. same_kid S T ts Z' j k v) (λ x. ⊤)

    abbrev WorksGiving : WayOf L (Term Triple (L → L)) → Type 0
    WorksGiving = WorksBy T (Kid T Given) (λ j d. IsMet S T ts j d) (λ x j v. ThroughAt S T ts x j v) l (λ h' Z' j. (λ a. a, λ a. a)) (λ h' Z' k j v. (λ a. a, λ a. a)) (λ Z' j k v. same_kid S T ts Z' j k v)
        (TermGives T (Kid T Given) (λ j d. IsMet S T ts j d) (λ x j v. ThroughAt S T ts x j v) l (λ h' Z' j. (λ a. a, λ a. a)) (λ h' Z' k j v. (λ a. a, λ a. a)) (λ Z' j k v. same_kid S T ts Z' j k v) w)

    named : (demands : List (List Triple)) → EachAt (λ j d. IsMet S T ts j d) demands → AreMet S T ts demands
    named demands met j = mets_out S T ts j (get_or demands j []) (met j)

    all_ways : (k : Option Head) → Middle S T l ts p (Asked k) w → (y : Way L) × Contains (ways_for T p Z k) y × Works S T l ts w y
    all_ways None (u, i, has, end) =
        let r = complete T Given l p Z free u i (has, tt) in
        let (y, here, (g, met, t)) = member WorksFree (free_ways T p Z)
        ((free_iff T (Kid T Given) (λ j d. IsMet S T ts j d) (λ x j v. ThroughAt S T ts x j v) l (λ h' Z' j. (λ a. a, λ a. a)) (λ h' Z' k j v. (λ a. a, λ a. a)) (λ Z' j k v. same_kid S T ts Z' j k v) p Z).1 r) in
        (free_way y, to_mapped free_way (free_ways T p Z) y here, (g, named y.demands met, tt))
    all_ways (Some k) (u, i, has, end) =
        let r = complete T Given l p Z (gives k w) u i (has, end) in
        let (y, here, (g, met, t)) = member WorksGiving (gives_ways T p Z k)
        ((gives_iff T (Kid T Given) (λ j d. IsMet S T ts j d) (λ x j v. ThroughAt S T ts x j v) l (λ h' Z' j. (λ a. a, λ a. a)) (λ h' Z' k j v. (λ a. a, λ a. a)) (λ Z' j k v. same_kid S T ts Z' j k v) p Z k w).1 r) in
        (giving_way y, to_mapped giving_way (gives_ways T p Z k) y here, (g, named y.demands met, t))

    premise : (k : Head) → CanReturn S T ts (Some k) → Premise Given T (gives k w)
    premise identity c = tt
    premise (run q) c = c

    module _ (there : HasChildren ts p) where
      by_triples : (demands : List (List Triple)) → AsksIn demands → AreMet S T ts demands → EachAt (λ j d. IsMet S T ts j d) demands
      by_triples demands asks met j =
          mets_in S T ts j (get_or demands j []) (each_map (λ d. Occurs d.first j p × AreStates T.looks d.all) (λ d. j < width ts) (λ d a. there j (occurs_uses d.first j p a.0)) (get_or demands j []) (asks j)) (met j)

      module _ (ranks : List ℕ) (ok : SttrFits T ranks) (low : AreStates T.looks Z) where
        only_ways : (k : Option Head) → CanReturn S T ts k → (y : Way L) → Contains (ways_for T p Z k) y → Works S T l ts w y → Middle S T l ts p (Asked k) w
        only_ways None can y c works =
            let (x, here, e) = of_mapped free_way (free_ways T p Z) y c in
            let (g, met, t) = subst (Works S T l ts w) (sym e) works in
            let asks = each_at (Asks T (λ h' j. Occurs h' j p)) (free_ways T p Z) x (free_asks T ranks ok p Z low) here in
            let r = (free_iff T (Kid T Given) (λ j d. IsMet S T ts j d) (λ x j v. ThroughAt S T ts x j v) l (λ h' Z' j. (λ a. a, λ a. a)) (λ h' Z' k j v. (λ a. a, λ a. a)) (λ Z' j k v. same_kid S T ts Z' j k v) p Z).0
            (of_member WorksFree (free_ways T p Z) x here (g, by_triples x.demands asks met, tt)) in
            let (u, i, fit) = sound T Given l p Z free tt r in
            (u, i, fit.0, tt)
        only_ways (Some k) can y c works =
            let (x, here, e) = of_mapped giving_way (gives_ways T p Z k) y c in
            let (g, met, t) = subst (Works S T l ts w) (sym e) works in
            let (asks, calls, lin) = each_at (Good T (λ h' j. Occurs h' j p) (Next T ranks ok k) (IsLinear p × AllLinear T)) (gives_ways T p Z k) x (gives_good T ranks ok p Z k low) here in
            let r = (gives_iff T (Kid T Given) (λ j d. IsMet S T ts j d) (λ x j v. ThroughAt S T ts x j v) l (λ h' Z' j. (λ a. a, λ a. a)) (λ h' Z' k j v. (λ a. a, λ a. a)) (λ Z' j k v. same_kid S T ts Z' j k v) p Z k w).0
            (of_member WorksGiving (gives_ways T p Z k) x here (g, by_triples x.demands asks met, t)) in
            let (u, i, fit) = sound T Given l p Z (gives k w) (premise k can) r in
            (u, i, fit.0, fit.1)

  module _ (ranks : List ℕ) (ok : SttrFits T ranks) (low : AreStates T.looks Z) where
    some_none : (k : Head) → Some k ≡ None → ⊥
    some_none k e = cc

    next : (k h' : Head) → Next T ranks ok k h' → (Some k ≡ Some h') ⊎ IsHead T h'
    next k h' (inl e) = inl (ap Some e)
    next k h' (inr x) = inr x

    asks_names : (demands : List (List Triple)) → AsksIn demands → (j : ℕ) → Each (λ n. IsAsked S T p n j) (asked (get_or demands j []))
    asks_names demands asks j = asks_named S T p j (get_or demands j []) (asks j)

    fit_ways : (k : Option Head) (y : Way L) → Contains (ways_for T p Z k) y → WayFits S T p (Asked k) y
    fit_ways None y c =
        let (x, here, e) = of_mapped free_way (free_ways T p Z) y c in
        let asks = each_at (Asks T (λ h' j. Occurs h' j p)) (free_ways T p Z) x (free_asks T ranks ok p Z low) here in
        subst (WayFits S T p (Asked None)) e (record { demands = asks_names x.demands asks; term = refl })
    fit_ways (Some k) y c =
        let (x, here, e) = of_mapped giving_way (gives_ways T p Z k) y c in
        let (asks, calls, lin) = each_at (Good T (λ h' j. Occurs h' j p) (Next T ranks ok k) (IsLinear p × AllLinear T)) (gives_ways T p Z k) x (gives_good T ranks ok p Z k low) here in
        subst (WayFits S T p (Asked (Some k))) e (record {
          demands = asks_names x.demands asks;
          term = (some_none k, (λ d j o. let (a, h', is, v, n) = calls d j o in (a, h', is, next k h' v, n)), λ lp lT. lin (lp, lT));
        })

  steady_ways : (k : Option Head) (y : Way L) → Contains (ways_for T p Z k) y → (l m : L) → AgreeMade T p l m → y.guard l ≡ y.guard m
  steady_ways None y c l m agree =
      let (x, here, e) = of_mapped free_way (free_ways T p Z) y c in
      subst (λ y. y.guard l ≡ y.guard m) e (each_at (Steady T l m) (free_ways T p Z) x (free_steady T l m p Z agree) here)
  steady_ways (Some k) y c l m agree =
      let (x, here, e) = of_mapped giving_way (gives_ways T p Z k) y c in
      subst (λ y. y.guard l ≡ y.guard m) e (each_at (Steady T l m) (gives_ways T p Z k) x (gives_steady T l m p Z k agree) here)

  maps_ways : (D : L → Type 0) (k : Option Head) (y : Way L) → Contains (ways_for T p Z k) y → (n : L → L) → MakesIn y.term n → IsChainOver D T p k n
  maps_ways D None y c n o =
      let (x, here, e) = of_mapped free_way (free_ways T p Z) y c in
      absurd (subst (λ y. MakesIn y.term n) (sym e) o)
  maps_ways D (Some k) y c n o =
      let (x, here, e) = of_mapped giving_way (gives_ways T p Z k) y c in
      each_at (MapsIn T D (IsChainOver D T p (Some k))) (gives_ways T p Z k) x (gives_maps T D p Z k) here n (subst (λ y. MakesIn y.term n) (sym e) o)

-- whatever the first is
pub ways_exact : {L : Type 0} (S T : Sttr L) (ranks : List ℕ) → SttrFits T ranks → (D : L → Type 0) (p : Term Head (L → L)) (x : Triple) → AreStates T.looks x.all → AreWays S T D p x (ways T p x)
ways_exact S T ranks ok D p x low = record {
  all = λ l d ts w m. all_ways S T p x.first x.all l ts w x.second m;
  only = λ l d ts w there can y c works. only_ways S T p x.first x.all l ts w there ranks ok low x.second can y c works;
  fit = λ y c. fit_ways S T p x.first x.all ranks ok low x.second y c;
  guards = λ y c l m dl dm agree. steady_ways S T p x.first x.all x.second y c l m agree;
  maps = λ y c n o. maps_ways S T p x.first x.all D x.second y c n o;
}
