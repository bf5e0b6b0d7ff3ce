-- What operations promise over the trees of one type is so over fewer trees.
use Rattle.std.proofs.Common.{◌⊎◌, inl, inr, List, []}
use Rattle.model_tree.specs.Tree.{Tree}
use Rattle.model_sta.specs.Automaton.{Rule}
use Rattle.model_sttr.specs.Transducer.{run, Sttr, Trans, Gives}
use Rattle.model_sttr.specs.Operations.{HasSource, AlikePairs, OfTransState, OfSources, OfOutputs, OfPairs, IsTransMadeOf, IsDomain, IsPreImage, IsRestriction, IsOutRestriction, IsComposition}
use Rattle.model_sta.specs.Operations.{HasAll, Auto, Has, InOne, Alike, OfState, OfClasses, IsMadeOf, OfBoth, OfBothOrClasses, IsUnion, IsIntersection, IsDifference, IsComplement, IsMinimal}

module _ {L : Type 0} (Typed Fewer : Tree L → Type 0) (within : (t : Tree L) → Fewer t → Typed t) where
  alike : (P Q : Tree L → Type 0) → Alike Typed P Q → Alike Fewer P Q
  alike P Q same t h = same t (within t h)

  of_state : (rules : List (List (Rule L))) (P : Tree L → Type 0) → OfState Typed rules P → OfState Fewer rules P
  of_state rules P (s, low, same) = (s, low, alike P (Has rules s) same)

  of_classes : (first second : List (List (Rule L))) (P : Tree L → Type 0) → OfClasses Typed first second P → OfClasses Fewer first second P
  of_classes first second P (classes, are, same) = (classes, are, alike P (InOne first second classes) same)

  of_both : (a b : Auto L) (P : Tree L → Type 0) → OfBoth Typed a b P → OfBoth Fewer a b P
  of_both a b P (inl one) = inl (of_state a.rules P one)
  of_both a b P (inr other) = inr (of_state b.rules P other)

  or_classes : (a b : Auto L) (P : Tree L → Type 0) → OfBothOrClasses Typed a b P → OfBothOrClasses Fewer a b P
  or_classes a b P (inl one) = inl (of_state a.rules P one)
  or_classes a b P (inr (inl other)) = inr (inl (of_state b.rules P other))
  or_classes a b P (inr (inr classes)) = inr (inr (of_classes a.rules b.rules P classes))

  made : (Q R : (Tree L → Type 0) → Type 0) (c : Auto L) (P : Tree L → Type 0) → ((S : Tree L → Type 0) → Q S → R S) → IsMadeOf Typed Q c P → IsMadeOf Fewer R c P
  made Q R c P to is = record {
    in_range = is.in_range;
    means = alike (Has c.rules c.start) P is.means;
    each_state = λ q low. elim (is.each_state q low) [ inl start ↦ inl start | inr other ↦ inr (to (Has c.rules q) other) ];
  }

  pub union : (a b c : Auto L) → IsUnion Typed a b c → IsUnion Fewer a b c
  union a b c = made (OfBoth Typed a b) (OfBoth Fewer a b) c (λ t. Has a.rules a.start t ⊎ Has b.rules b.start t) (of_both a b)

  pub intersection : (a b c : Auto L) → IsIntersection Typed a b c → IsIntersection Fewer a b c
  intersection a b c = made (OfBoth Typed a b) (OfBoth Fewer a b) c (λ t. Has a.rules a.start t × Has b.rules b.start t) (of_both a b)

  pub difference : (a b c : Auto L) → IsDifference Typed a b c → IsDifference Fewer a b c
  difference a b c = made (OfBothOrClasses Typed a b) (OfBothOrClasses Fewer a b) c (λ t. Has a.rules a.start t × ¬ (Has b.rules b.start t)) (or_classes a b)

  pub minimal : (a c : Auto L) → IsMinimal Typed a c → IsMinimal Fewer a c
  minimal a c = made (OfBothOrClasses Typed a a) (OfBothOrClasses Fewer a a) c (Has a.rules a.start) (or_classes a a)

  pub complement : (a c : Auto L) → IsComplement Typed a c → IsComplement Fewer a c
  complement a c = made (OfBothOrClasses Typed a a) (OfBothOrClasses Fewer a a) c (λ t. ¬ (Has a.rules a.start t)) (or_classes a a)

  -- ---- transducers

  alike_pairs : (R S : Tree L → Tree L → Type 0) → AlikePairs Typed R S → AlikePairs Fewer R S
  alike_pairs R S same t u h = same t u (within t h)

  of_trans_state : (f : Sttr L) (R : Tree L → Tree L → Type 0) → OfTransState Typed f R → OfTransState Fewer f R
  of_trans_state f R (q, low, same) = (q, low, alike_pairs R (Gives f (run q)) same)

  of_sources : (f : Sttr L) (rules : List (List (Rule L))) (P : Tree L → Type 0) → OfSources Typed f rules P → OfSources Fewer f rules P
  of_sources f rules P o = record { head = o.head; is_head = o.is_head; all = o.all; are = o.are; same = alike P (HasSource f rules o.head o.all) o.same }

  of_outputs : (f : Sttr L) (rules : List (List (Rule L))) (R : Tree L → Tree L → Type 0) → OfOutputs Typed f rules R → OfOutputs Fewer f rules R
  of_outputs f rules R o = record { head = o.head; is_head = o.is_head; all = o.all; are = o.are; same = alike_pairs R (λ t u. Gives f o.head t u × HasAll rules o.all u) o.same }

  of_pairs : (f g : Sttr L) (R : Tree L → Tree L → Type 0) → OfPairs Typed f g R → OfPairs Fewer f g R
  of_pairs f g R o = record {
    first = o.first;
    is_first = o.is_first;
    second = o.second;
    is_second = o.is_second;
    all = o.all;
    are = o.are;
    same = alike_pairs R (λ t w. (u : Tree L) × Gives f o.first t u × HasAll g.looks o.all u × Gives g o.second u w) o.same;
  }

  look_or_source : (f : Sttr L) (rules : List (List (Rule L))) (P : Tree L → Type 0) → OfState Typed f.looks P ⊎ OfSources Typed f rules P → OfState Fewer f.looks P ⊎ OfSources Fewer f rules P
  look_or_source f rules P (inl look) = inl (of_state f.looks P look)
  look_or_source f rules P (inr source) = inr (of_sources f rules P source)

  look_or_state : (f : Sttr L) (rules : List (List (Rule L))) (P : Tree L → Type 0) → OfState Typed f.looks P ⊎ OfState Typed rules P → OfState Fewer f.looks P ⊎ OfState Fewer rules P
  look_or_state f rules P (inl look) = inl (of_state f.looks P look)
  look_or_state f rules P (inr own) = inr (of_state rules P own)

  pub domain : (f : Trans L) (c : Auto L) → IsDomain Typed f c → IsDomain Fewer f c
  domain f c = made (λ P. OfState Typed f.sttr.looks P ⊎ OfSources Typed f.sttr [] P) (λ P. OfState Fewer f.sttr.looks P ⊎ OfSources Fewer f.sttr [] P) c (λ t. (u : Tree L) × Gives f.sttr (run f.start) t u) (look_or_source f.sttr [])

  pub pre_image : (f : Trans L) (a c : Auto L) → IsPreImage Typed f a c → IsPreImage Fewer f a c
  pre_image f a c =
      made (λ P. OfState Typed f.sttr.looks P ⊎ OfSources Typed f.sttr a.rules P) (λ P. OfState Fewer f.sttr.looks P ⊎ OfSources Fewer f.sttr a.rules P) c (λ t. (u : Tree L) × Gives f.sttr (run f.start) t u × Has a.rules a.start u) (look_or_source f.sttr a.rules)

  trans_made : (Q QF : (Tree L → Type 0) → Type 0) (R RF : (Tree L → Tree L → Type 0) → Type 0) (S : Type 0) (c : Trans L) (P : Tree L → Tree L → Type 0) → ((V : Tree L → Type 0) → Q V → QF V) → ((V : Tree L → Tree L → Type 0) → R V → RF V)
      → IsTransMadeOf Typed Q R S c P → IsTransMadeOf Fewer QF RF S c P
  trans_made Q QF R RF S c P to also is = record {
    in_range = is.in_range;
    means = alike_pairs (Gives c.sttr (run c.start)) P is.means;
    each_state = λ q low. elim (is.each_state q low) [ inl start ↦ inl start | inr other ↦ inr (also (Gives c.sttr (run q)) other) ];
    each_look = λ q low. to (Has c.sttr.looks q) (is.each_look q low);
    gives_same = is.gives_same;
  }

  pub restriction : (f : Trans L) (a : Auto L) (c : Trans L) → IsRestriction Typed f a c → IsRestriction Fewer f a c
  restriction f a c is =
      trans_made (λ P. OfState Typed f.sttr.looks P ⊎ OfState Typed a.rules P) (λ P. OfState Fewer f.sttr.looks P ⊎ OfState Fewer a.rules P) (OfTransState Typed f.sttr) (OfTransState Fewer f.sttr) _ c
      (λ t u. Gives f.sttr (run f.start) t u × Has a.rules a.start t) (look_or_state f.sttr a.rules) (of_trans_state f.sttr) is

  pub out_restriction : (f : Trans L) (a : Auto L) (c : Trans L) → IsOutRestriction Typed f a c → IsOutRestriction Fewer f a c
  out_restriction f a c is =
      trans_made (λ P. OfState Typed f.sttr.looks P ⊎ OfSources Typed f.sttr a.rules P) (λ P. OfState Fewer f.sttr.looks P ⊎ OfSources Fewer f.sttr a.rules P) (OfOutputs Typed f.sttr a.rules) (OfOutputs Fewer f.sttr a.rules) _ c
      (λ t u. Gives f.sttr (run f.start) t u × Has a.rules a.start u) (look_or_source f.sttr a.rules) (of_outputs f.sttr a.rules) is

  pub composition : (f g c : Trans L) → IsComposition Typed f g c → IsComposition Fewer f g c
  composition f g c is =
      trans_made (λ P. OfState Typed f.sttr.looks P ⊎ OfSources Typed f.sttr g.sttr.looks P) (λ P. OfState Fewer f.sttr.looks P ⊎ OfSources Fewer f.sttr g.sttr.looks P) (OfPairs Typed f.sttr g.sttr) (OfPairs Fewer f.sttr g.sttr) _ c
      (λ t w. (u : Tree L) × Gives f.sttr (run f.start) t u × Gives g.sttr (run g.start) u w) (look_or_source f.sttr g.sttr.looks) (of_pairs f.sttr g.sttr) is
