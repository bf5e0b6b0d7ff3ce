-- What the names of which two transformations are made show of their composition.
use Rattle.std.proofs.Common.{◌≡◌, inl, inr, ℕ, Some, List, [], ◌∷◌, Contains, refl, subst}
use Rattle.model_tree.specs.Tree.{LabelTree}
use Rattle.model_program.specs.Syntax.{Name}
use Rattle.model_grammar.specs.Syntax.{X, named, Item}
use Rattle.model_checks.specs.Sound.{IsSound}
use Rattle.model_meaning.specs.Reached.{Reaches}
use Rattle.model_run.specs.Plain.{ReachesSome, Meet, IsPlain}
use Rattle.model_run.specs.Causes.{AreAllLarge}
use Rattle.model_layers.specs.Causes.{IsAmong, CausesWiden}
use Rattle.model_layers.proofs.Wider.{are_widened}
use Rattle.lin_solve.specs.declared.chain.Chain.{Chain}
use Rattle.lin_solve.specs.Shown.{bits_of}
use Rattle.sta_classes.specs.declared.stop.ClassStop.{ClassStop}
use Rattle.sta_classes.specs.declared.stop.ClassStop.TheVariants.{Classes, Wide, Memory}
use Rattle.sta_theory.proofs.Lists.{first_in}
use Rattle.std.proofs.lemmas.List.Elements.{All-contains}
use Rattle.model_meaning.proofs.Members.{one_of, none_of}
use Rattle.fast_compose.specs.declared.copying.Placed.{Placed}
use Rattle.fast_compose.specs.declared.meetings.Met.TheVariants.{Nowhere, At, TooLarge}
use Rattle.fast_compose.specs.declared.stops.Meeting.{Meeting}
use Rattle.fast_compose.specs.Sources.{IsSource, AreSources}
use Rattle.fast_compose.specs.Copying.{IsFirst}
use Rattle.fast_compose.specs.Meetings.{tree_of, IsMet, StopsMeeting}
use Rattle.fast_compose.specs.Composed.{by_classes, IsUncomposable, AreLargeMeetings, StopsPair}
use Rattle.fast_compose.proofs.Named.{some_source, reached_by_source, source_among}
use Rattle.fast_compose.proofs.First.{OfSources, first_shown, copying_shown}

module _ (items : List Item) (whole : IsSound items) (x : X) (names : List (List ℕ)) (are : AreSources items x names) where
  abbrev pub Own : List ℕ → Type 0
  Own q = (n : List ℕ) × Contains names n × Reaches items n q

  by_own : (P : List ℕ → Type 0) (q : List ℕ) → Own q → P q → ReachesSome items P x
  by_own P q (n, at, reach) holds = reached_by_source items P x n q (All-contains (IsSource items x) names n are.only at) reach holds

  own_by : (P : List ℕ → Type 0) → ReachesSome items P x → (q : List ℕ) × Own q × P q
  own_by P reached = let (n, at, q, reach, holds) = some_source items whole P x names are reached in (q, (n, at, reach), holds)

  pub plain_by_nowhere : IsMet items Own Nowhere → IsPlain items x
  plain_by_nowhere none reached =
      let (q, own, (i, j, t, meet)) = own_by (λ q. (i j : ℕ) × (t : LabelTree) × Meet items q i j t) reached in
      none t (q, own, i, j, meet)

  abbrev SomeMeet : LabelTree → Type 0
  SomeMeet t = ReachesSome items (λ q. (i j : ℕ) × Meet items q i j t) x

  large_by_all : IsMet items Own TooLarge → AreAllLarge SomeMeet
  large_by_all big =
      let (q, own, i, j, meet) = big.right in
      record {
        tree = big.tree;
        right = by_own (λ q. (i j : ℕ) × Meet items q i j big.tree) q own (i, j, meet);
        large = λ t reached. (let (p, its, (k, l, also)) = own_by (λ q. (i j : ℕ) × Meet items q i j t) reached in big.large t (p, its, k, l, also));
      }

  widened : (n : List ℕ) → Contains names n → (m : Name) × (m.text ≡ n) × CausesWiden items (named m ∷ []) (x ∷ [])
  widened n at =
      let (m, same, among) = source_among items x n (All-contains (IsSource items x) names n are.only at) in
      (m, same, are_widened items (named m ∷ []) (x ∷ []) (λ e is. (x, first_in x [], subst (λ z. IsAmong items z x) (only (named m) e is) among)))
    where
      only : (a b : X) → Contains (a ∷ []) b → a ≡ b
      only a b is = elim (one_of a b [] is) [ inl same ↦ same | inr none ↦ absurd (none_of b none) ]

  pub pair_stops : (y : X) (limit : ℕ) (n : List ℕ) → Contains names n → (s : ClassStop Chain) → StopsMeeting items n limit s → StopsPair items limit x y (by_classes s)
  pair_stops y limit n at Classes stop = let (m, same, wide) = widened n at in wide.trees limit (stop m same)
  pair_stops y limit n at (Wide c) stop = let (m, same, wide) = widened n at in wide.wide (bits_of c.width) (stop m same)
  pair_stops y limit n at Memory stop = tt

  module _ (y : X) (seconds : List (List ℕ)) (also : AreSources items y seconds) (p : Placed) (first : IsFirst items (OfSources items whole y seconds also) (Some p)) where
    pub uncomposable : (m : Meeting) → IsMet items Own (At m) → IsUncomposable items x y (record { meeting = m; copying = p.copying })
    uncomposable m is = record {
      meet = by_own (λ q. (q ≡ m.name) × Meet items q m.first m.second (tree_of m)) m.name is.reached (refl, is.meet);
      copies = first_shown items whole y seconds also p first;
      type = is.type;
      kept = is.kept;
      small = is.small;
      shallow = is.shallow;
    }

    pub large_pair : IsMet items Own TooLarge → AreLargeMeetings items x y
    large_pair big = record { meet = large_by_all big; copies = copying_shown items whole y seconds also p first }
