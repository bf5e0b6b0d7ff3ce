-- What is proved of the lists of ways, and of the names that ways ask for and call.
use Rattle.std.specs.Prelude.{◌≡◌, ℕ, Bool, List, [], Option, Some, Contains}
use Rattle.model_sta.specs.Operations.{AreStates}
use Rattle.model_sttr.specs.Terms.{Term}
use Rattle.model_sttr.specs.Transducer.{Head, identity, run, OutRule, Sttr, out_rules, IsHead, SttrFits}
use Rattle.sttr_theory.specs.Lists.{SameStates}
use Rattle.sttr_theory.specs.Covers.{Covers, Never}
use Rattle.sttr_theory.specs.Triples.{Triple, Way, LookName, IsAsked, IsCalled, AreWays}
use Rattle.sttr_theory.specs.Built.{IsRuleOf, AreOutRules, LookNameFits, TripleFits}
use Rattle.sttr_theory.specs.Ways.{ways_for, ways}
use Rattle.sttr_theory.specs.Alike.{AlikeWay, AreMadeWays}
use Rattle.sttr_theory.specs.Copies.{on_same, IsOfRanks, AreCopiedRules}
use Rattle.sttr_theory.specs.Results.{Told}

-- whatever the first is
abbrev pub ListsAreWays : Type 0 → Type 0
ListsAreWays L = (f g : Sttr L) (into : List ℕ) (d : L → Bool) (p : Term Head (L → L)) (x : Triple) → SttrFits g into → AreStates g.looks x.all → AreWays f g (Told d) p x (ways g p x)

-- and so is each list that covers ways
abbrev pub CoversAreWays : Type 0 → Type 0
CoversAreWays L = (f g : Sttr L) (d : L → Bool) (p : Term Head (L → L)) (x : Triple) (ys zs : List (Way L)) → AreWays f g (Told d) p x zs → Covers (AlikeWay (Told d)) (λ z. Never (Told d) z.guard) ys zs → AreWays f g (Told d) p x ys

abbrev pub MadeAreWays : Type 0 → Type 0
MadeAreWays L = (f g : Sttr L) (into : List ℕ) (d : L → Bool) (p : Term Head (L → L)) (x : Triple) (ys : List (Way L)) → SttrFits g into → AreStates g.looks x.all → AreMadeWays (Told d) g p x ys → AreWays f g (Told d) p x ys

-- ways over the same demanded states cover each other
abbrev pub StatesCover : Type 0 → Type 0
StatesCover L = (d : L → Bool) (g : Sttr L) (p : Term Head (L → L)) (Z W : List ℕ) (k : Option Head) → SameStates Z W → Covers (AlikeWay (Told d)) (λ z. Never (Told d) z.guard) (ways_for g p Z k) (ways_for g p W k)

-- the rules of a state of the second, with other numbers, are those for the identity and that state
abbrev pub CopiedAreRules : Type 0 → Type 0
CopiedAreRules L = (ranks : List ℕ) (d : L → Bool) (f g : Sttr L) (looks : List LookName) (names : List Triple) (rs : List (OutRule L)) (q : ℕ)
    → SttrFits g ranks → ((σ : OutRule L) → Contains (out_rules g q) σ → IsOfRanks ranks σ.rule) → AreCopiedRules ranks (Told d) f g looks names rs (out_rules g q) → AreOutRules ranks (Told d) f g looks names rs (on_same (run q))

-- what a way over a rule asks for fits
abbrev pub AskedFit : Type 0 → Type 0
AskedFit L = (ranks : List ℕ) (d : L → Bool) (f g : Sttr L) → SttrFits f ranks
    → (h : Head) → IsHead f h → (ρ : OutRule L) → IsRuleOf ranks (Told d) f g h ρ → (n : LookName) (j : ℕ) → IsAsked f g ρ.term n j → LookNameFits f g n

-- and so does what it calls, but for two identities: in a composition, and in a restriction of outputs, where the second has no heads
abbrev pub CalledFit : Type 0 → Type 0
CalledFit L = (ranks : List ℕ) (d : L → Bool) (f g : Sttr L) → SttrFits f ranks
    → (x : Triple) → TripleFits f g (IsHead g) x → (ρ : OutRule L) → IsRuleOf ranks (Told d) f g x.first ρ → (k : Triple) (j : ℕ) → IsCalled f g ρ.term x k j → (k.first ≡ identity → ¬ (k.second ≡ Some identity)) → TripleFits f g (IsHead g) k

abbrev pub CalledFitUnchanged : Type 0 → Type 0
CalledFitUnchanged L = (ranks : List ℕ) (d : L → Bool) (f g : Sttr L) → SttrFits f ranks → g.rules ≡ []
    → (x : Triple) → TripleFits f g (λ h. h ≡ identity) x → (ρ : OutRule L) → IsRuleOf ranks (Told d) f g x.first ρ → (k : Triple) (j : ℕ) → IsCalled f g ρ.term x k j → (k.first ≡ identity → ¬ (k.second ≡ Some identity)) → TripleFits f g (λ h. h ≡ identity) k
