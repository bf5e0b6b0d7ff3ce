-- What covers ways is as good.
use Rattle.std.proofs.Common.{ℕ, ◌<◌, List, [], get_or, length, Option, Some, None, sym, subst, ◌∙◌, inl, inr}
use Rattle.model_tree.specs.Tree.{Tree, Trees}
use Rattle.model_sta.specs.Sets.{Each}
use Rattle.model_sta.specs.Operations.{Has, AreStates}
use Rattle.model_sttr.specs.Terms.{Term, Occurs}
use Rattle.model_sttr.specs.Transducer.{Head, Sttr, GivesAt, SttrFits}
use Rattle.model_sttr.specs.Guards.{MakesAlike}
use Rattle.model_sttr.proofs.Stands.{stands_out, stands_in, stands_occurs, stands_linear, stands_makes}
use Rattle.sttr_theory.specs.Lists.{SameStates}
use Rattle.sttr_theory.specs.Covers.{Never, Covers}
use Rattle.sttr_theory.specs.Guards.{MakesIn, IsChainOver}
use Rattle.sttr_theory.specs.Triples.{Triple, Way, LookName, of_first, of_second, middle, asked, At, Means, AsksApart, Ends, ThroughAt, Yields, Works, IsAsked, IsCalled, IsTermFor, WayFits, AreWays}
use Rattle.sttr_theory.specs.Ways.{ways}
use Rattle.sttr_theory.specs.Alike.{SameName, SameAsked, SameTriple, SameTerm, AlikeWay, AreMadeWays}
use Rattle.sttr_theory.proofs.Matches.{match_out, match_in}
use Rattle.sttr_theory.proofs.Once.{each_same, same_turned, same_empty}
use Rattle.sttr_theory.proofs.Covers.{held}
use Rattle.sttr_theory.proofs.Asked.{at_map}
use Rattle.sttr_theory.proofs.Exact.{ways_exact}

module _ {L : Type 0} (f g : Sttr L) (D : L → Type 0) where
  means_out : (n m : LookName) → SameName n m → (t : Tree L) → Means f g n t → Means f g m t
  means_out (of_first s) m e t x = subst (λ n. Means f g n t) e x
  means_out (of_second s) m e t x = subst (λ n. Means f g n t) e x
  means_out (middle q Z) m (W, e, same) t x = let (u, gives, has) = x in subst (λ n. Means f g n t) e (u, gives, each_same (λ s. Has g.looks s u) Z W same has)

  means_in : (n m : LookName) → SameName n m → (t : Tree L) → Means f g m t → Means f g n t
  means_in (of_first s) m e t x = subst (λ n. Means f g n t) (sym e) x
  means_in (of_second s) m e t x = subst (λ n. Means f g n t) (sym e) x
  means_in (middle q Z) m (W, e, same) t x = let (u, gives, has) = subst (λ n. Means f g n t) (sym e) x in (u, gives, each_same (λ s. Has g.looks s u) W Z (same_turned Z W same) has)

  module _ (ts : Trees L) where
    through_out : (d e : Triple) (j : ℕ) (w : Tree L) → SameTriple d e → ThroughAt f g ts d j w → ThroughAt f g ts e j w
    through_out d e j w same (u, gives, has, end) = (u, subst (λ h. GivesAt f h j ts u) same.0 gives, each_same (λ s. Has g.looks s u) d.all e.all same.1 has, subst (λ k. Ends f g k u w) same.2 end)

    through_in : (d e : Triple) (j : ℕ) (w : Tree L) → SameTriple d e → ThroughAt f g ts e j w → ThroughAt f g ts d j w
    through_in d e j w same (u, gives, has, end) = (u, subst (λ h. GivesAt f h j ts u) (sym same.0) gives, each_same (λ s. Has g.looks s u) e.all d.all (same_turned d.all e.all same.1) has, subst (λ k. Ends f g k u w) (sym same.2) end)

    mets_out : (ds es : List Triple) (j : ℕ) → SameAsked ds es → Each (λ n. At (Means f g n) j ts) (asked ds) → Each (λ n. At (Means f g n) j ts) (asked es)
    mets_out ds es j same met = match_out SameName (λ n. At (Means f g n) j ts) (λ n. At (Means f g n) j ts) (λ n m r a. at_map (Means f g n) (Means f g m) (λ t x. means_out n m r t x) j ts a) (asked ds) (asked es) same met

    mets_in : (ds es : List Triple) (j : ℕ) → SameAsked ds es → Each (λ n. At (Means f g n) j ts) (asked es) → Each (λ n. At (Means f g n) j ts) (asked ds)
    mets_in ds es j same met = match_in SameName (λ n. At (Means f g n) j ts) (λ n. At (Means f g n) j ts) (λ n m r a. at_map (Means f g m) (Means f g n) (λ t x. means_in n m r t x) j ts a) (asked ds) (asked es) same met

    module _ (l : L) (d : D l) (w : Tree L) where
      yields_out : (p q : Option (Term Triple (L → L))) → SameTerm D p q → Yields f g l ts p w → Yields f g l ts q w
      yields_out None None same y = tt
      yields_out None (Some q) same y = absurd same
      yields_out (Some p) None same y = tt
      yields_out (Some p) (Some q) same y = stands_out SameTriple D (λ x j v. ThroughAt f g ts x j v) (λ x j v. ThroughAt f g ts x j v) l d (λ x e j v r t. through_out x e j v r t) p q w same y

      yields_in : (p q : Option (Term Triple (L → L))) → SameTerm D p q → Yields f g l ts q w → Yields f g l ts p w
      yields_in None q same y = tt
      yields_in (Some p) None same y = absurd same
      yields_in (Some p) (Some q) same y = stands_in SameTriple D (λ x j v. ThroughAt f g ts x j v) (λ x j v. ThroughAt f g ts x j v) l d (λ x e j v r t. through_in x e j v r t) p q w same y

      works_out : (y z : Way L) → AlikeWay D y z → Works f g l ts w y → Works f g l ts w z
      works_out y z same (guard, met, yields) = (
        sym (same.same_guard l d) ∙ guard,
        (λ j. mets_out (get_or y.demands j []) (get_or z.demands j []) j (same.same_demands j) (met j)),
        yields_out y.term z.term same.same_term yields,
      )

      works_in : (y z : Way L) → AlikeWay D y z → Works f g l ts w z → Works f g l ts w y
      works_in y z same (guard, met, yields) = (
        same.same_guard l d ∙ guard,
        (λ j. mets_in (get_or y.demands j []) (get_or z.demands j []) j (same.same_demands j) (met j)),
        yields_in y.term z.term same.same_term yields,
      )

  module _ (p : Term Head (L → L)) where
    asked_in : (n m : LookName) (j : ℕ) → SameName n m → IsAsked f g p m j → IsAsked f g p n j
    asked_in (of_first s) m j e a = subst (λ n. IsAsked f g p n j) (sym e) a
    asked_in (of_second s) m j e a = subst (λ n. IsAsked f g p n j) (sym e) a
    asked_in (middle q Z) m j (W, e, same) a = let (o, low) = subst (λ n. IsAsked f g p n j) (sym e) a in (o, each_same (λ s. s < length g.looks) W Z (same_turned Z W same) low)

    apart_in : (d e : Triple) → SameTriple d e → AsksApart e → AsksApart d
    apart_in d e same apart a = same_empty d.all (subst (SameStates d.all) (apart (sym same.0 ∙ a)) same.1)

    called_in : (x d e : Triple) (j : ℕ) → SameTriple d e → IsCalled f g p x e j → IsCalled f g p x d j
    called_in x d e j same ((o, low), h, has, from, apart) = ((subst (λ h. Occurs h j p) (sym same.0) o, each_same (λ s. s < length g.looks) e.all d.all (same_turned d.all e.all same.1) low), h, same.2 ∙ has, from, apart_in d e same apart)

    term_in : (x : Triple) (r q : Option (Term Triple (L → L))) → SameTerm D r q → IsTermFor f g p x q → IsTermFor f g p x r
    term_in x None None same is = is
    term_in x None (Some q) same is = absurd same
    term_in x (Some r) None same is = absurd same
    term_in x (Some r) (Some q) same (there, calls, linear) = (
      there,
      (λ d j o. let (e, s, o') = stands_occurs SameTriple D d j r q same o in called_in x d e j s (calls e j o')),
      λ lp lg. stands_linear SameTriple D r q same (linear lp lg),
    )

    fits_in : (x : Triple) (y z : Way L) → AlikeWay D y z → WayFits f g p x z → WayFits f g p x y
    fits_in x y z same fits = record {
      demands = λ j. match_in SameName (λ n. IsAsked f g p n j) (λ n. IsAsked f g p n j) (λ n m r a. asked_in n m j r a) (asked (get_or y.demands j [])) (asked (get_or z.demands j [])) (same.same_demands j) (fits.demands j);
      term = term_in x y.term z.term same.same_term fits.term;
    }

    chain_in : (k : Option Head) (n m : L → L) → MakesAlike D n m → IsChainOver D g p k m → IsChainOver D g p k n
    chain_in k n m a (inl (m', o, k', is, alike)) = inl (m', o, k', is, λ l d. a l d ∙ alike l d)
    chain_in k n m a (inr (m', o, alike)) = inr (m', o, λ l d. a l d ∙ alike l d)

    maps_in : (k : Option Head) (r q : Option (Term Triple (L → L))) → SameTerm D r q → ((m : L → L) → MakesIn q m → IsChainOver D g p k m) → (n : L → L) → MakesIn r n → IsChainOver D g p k n
    maps_in k None q same maps n o = absurd o
    maps_in k (Some r) None same maps n o = absurd same
    maps_in k (Some r) (Some q) same maps n o = let (m, o', alike) = stands_makes SameTriple D r q same n o in chain_in k n m alike (maps m o')

  pub covers_are_ways : (p : Term Head (L → L)) (x : Triple) (ys zs : List (Way L)) → AreWays f g D p x zs → Covers (AlikeWay D) (λ z. Never D z.guard) ys zs → AreWays f g D p x ys
  covers_are_ways p x ys zs ways same = record {
    all = λ l d ts w m. let (z, at, works) = ways.all l d ts w m in let (y, mine, alike) = held D z.guard l d works.0 (same.all z at) in (y, mine, works_in ts l d w y z alike works);
    only = λ l d ts w there can y c works. let (z, at, alike) = same.only y c in ways.only l d ts w there can z at (works_out ts l d w y z alike works);
    fit = λ y c. let (z, at, alike) = same.only y c in fits_in p x y z alike (ways.fit z at);
    guards = λ y c l m dl dm agree. let (z, at, alike) = same.only y c in alike.same_guard l dl ∙ ways.guards z at l m dl dm agree ∙ sym (alike.same_guard m dm);
    maps = λ y c n o. let (z, at, alike) = same.only y c in maps_in p x.second y.term z.term alike.same_term (λ m o'. ways.maps z at m o') n o;
  }

-- whatever the first is
pub made_are_ways : {L : Type 0} (f g : Sttr L) (into : List ℕ) → SttrFits g into → (D : L → Type 0) (p : Term Head (L → L)) (x : Triple) → AreStates g.looks x.all → (ys : List (Way L)) → AreMadeWays D g p x ys → AreWays f g D p x ys
made_are_ways f g into ok D p x low ys made = covers_are_ways f g D p x ys (ways g p x) (ways_exact f g into ok D p x low) made
