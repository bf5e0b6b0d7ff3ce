-- How far a search for classes is.
use Rattle.std.specs.Prelude.{ℕ, ◌^◌, ◌≡◌, ◌<◌, ◌≤◌, ◌↔◌, Bool, List, [], map, get_or, length, All, Contains, Vec}
use Rattle.model_tree.specs.Label.{Label}
use Rattle.model_sta.specs.Automaton.{Rule}
use Rattle.model_sta.specs.Sets.{Row, rows_meet, step}
use Rattle.model_sta.specs.Least.{rows_of, counts_of, rows_at, nodes_at, cost, IsMade, AreClasses}
use Rattle.label_core.specs.Meaning.{Meaning}
use Rattle.sta_core.specs.Machine.{plain_rule}
use Rattle.sta_core.specs.declared.StaRule.{StaRule}
use Rattle.sta_classes.specs.Applying.{IsRules}
use Rattle.sta_classes.specs.Bits.{both}
use Rattle.sta_classes.specs.Guards.{GuardsFit}
use Rattle.sta_classes.specs.Rules.{plain_rules, meaning_of}
use Rattle.sta_classes.specs.Splits.{AreMet, AreTold, AreAllTold}
use Rattle.sta_classes.specs.Lists.{IsNewList}
use Rattle.sta_classes.specs.Meant.{AreFound, AreAllFound, StopsClasses}
use Rattle.sta_classes.specs.Rows.{found_of, founds, class_rows, class_rows_at, lists_of}
use Rattle.sta_classes.specs.Places.{AreAsked, IsNumbered, IsNext}
use Rattle.sta_classes.specs.Pending.{IsPending, IsSettled, IsMet, IsBetter, AreKept, count_none}
use Rattle.sta_classes.specs.declared.class.Class.{Class}
use Rattle.sta_classes.specs.declared.class.TheConstants.{CAP}
use Rattle.sta_classes.specs.declared.known.Known.{Known}
use Rattle.sta_classes.specs.declared.place.Place.{Place}
use Rattle.sta_classes.specs.declared.pending.Pending.{Pending}
use Rattle.sta_classes.specs.declared.rules.Rules.{Rules}
use Rattle.sta_classes.specs.declared.search.Course.{Course}
use Rattle.sta_classes.specs.declared.search.Offers.{Offers}
use Rattle.sta_classes.specs.declared.splits.Splits.{Splits}
use Rattle.sta_classes.specs.declared.splits.Told.{Told}
use Rattle.sta_classes.specs.declared.stop.ClassStop.{ClassStop}

-- the guards fit, and the rules of each constructor are there
pub record IsReady {A G : Type 0} (eq : A → A → Bool) (fits : A → Type 0) (ranks : List ℕ) (rules : List (Vec (StaRule A) G)) (own : List (Rules A)) : Type 0 where
  pub fit : GuardsFit fits (plain_rules rules)
  pub few : length ranks < 2 ^ 32
  pub many : length own ≡ length ranks
  pub own_are : (c : ℕ) (R : Rules A) → c < length own → get_or own c R ≡ R → IsRules eq rules c R

module _ {A V W : Type 0} {label_of : V → Label} {holds : A → Label → Bool} (M : Meaning label_of holds W) where
  -- these are the rules whose demands children with these sets meet, and labels that tell the guards of these rules apart
  abbrev pub IsTold : Rules A → List Row → Row → List (Told V) → Type 0
  IsTold R qs key told = (key ≡ map (λ x. rows_meet qs (plain_rule x.rule.now).demands) R.list.items) × AreTold M R.list.items (both R.guarded key) told

  -- what is known of the rules of each constructor, by the sets of the classes
  pub record AreSplit (ranks : List ℕ) (own : List (Rules A)) (rows : List Row) (splits : List (Splits V)) : Type 0 where
    pub many : length splits ≡ length ranks
    pub met : (c : ℕ) (R : Rules A) (s : Splits V) → c < length splits → get_or own c R ≡ R → get_or splits c s ≡ s → AreMet R.list.items (get_or ranks c 0) rows s.met.items
    pub told : (c : ℕ) (R : Rules A) (s : Splits V) → c < length splits → get_or own c R ≡ R → get_or splits c s ≡ s → AreAllTold M R.list.items s

-- the first classes of the kinds at each place of a constructor
abbrev pub firsts_of : List Place → List (List ℕ)
firsts_of places = map (λ p. p.firsts.items) places

-- the same at one place
abbrev pub listed_at : {G : Type 0} → List (Vec Place G) → ℕ → ℕ → List ℕ
listed_at places c j = get_or (firsts_of (get_or (lists_of places) c [])) j []

-- the places of a constructor, with the kinds of classes with these sets
pub record ArePlaces {A G : Type 0} (rules : List (Vec (StaRule A) G)) (rows : List Row) (c rank : ℕ) (places : List Place) : Type 0 where
  pub many : length places ≡ rank
  pub each : (j : ℕ) (p : Place) → j < length places → get_or places j p ≡ p → AreAsked rules c j p.states.items × IsNumbered rows p

-- the same places with one more class of this set: what is listed is as it was, or has that class behind it
pub record NextPlaces (row : Row) (old new : List Place) : Type 0 where
  pub many : length new ≡ length old
  pub each : (j : ℕ) (p q : Place) → j < length old → get_or old j p ≡ p → get_or new j q ≡ q → IsNext row p q

-- the kinds at each place of each constructor, by the classes that are found
module _ {A V G H : Type 0} (ranks : List ℕ) (rules : List (Vec (StaRule A) G)) (classes : List (Class V)) (places : List (Vec Place H)) where
  pub record AreKinds : Type 0 where
    pub many : length places ≡ length ranks
    pub each : (c : ℕ) → c < length ranks → ArePlaces rules (class_rows classes) c (get_or ranks c 0) (get_or (lists_of places) c [])

module _ {V : Type 0} (ranks : List ℕ) (has keeps : Label → Type 0) (rules : List (List (Rule Label))) (label : V → Label) where
  -- what is found are classes in the order of their least trees, and what is pending are trees over them
  pub record IsSound (found : List (Class V)) (s : Pending V) : Type 0 where
    pub classes : AreClasses CAP ranks has keeps rules (founds label found)
    pub rising : (i k : ℕ) → i ≤ k → k < length found → get_or (counts_of (founds label found)) i 0 ≤ get_or (counts_of (founds label found)) k 0
    pub kept : AreKept s
    pub made : (i : ℕ) (c : Class V) → IsPending s i c → IsMade CAP ranks keeps rules (founds label found) (length found) (found_of label c)
    pub above : (i : ℕ) (c : Class V) → IsPending s i c → (k : ℕ) → k < length found → get_or (counts_of (founds label found)) k 0 ≤ c.nodes
    pub settled : (q : Row) → IsSettled s q ↔ Contains (rows_of (founds label found)) q
    pub count : count_none s.best.items ≡ length found

  -- each tree over these children has a set that is met
  abbrev pub IsOpened : List (Class V) → Pending V → ℕ → List ℕ → Type 0
  IsOpened found s c ks = (l : Label) → has l → IsMet s (step rules c l (rows_at (founds label found) ks)) (cost CAP (nodes_at (founds label found) ks))

  -- the same for all lists of kinds
  abbrev pub AreOpened : {H : Type 0} → List (Class V) → List (Vec Place H) → Pending V → Type 0
  AreOpened found places s = (c : ℕ) → c < length ranks → (ks : List ℕ) → length ks ≡ get_or ranks c 0 → ((j : ℕ) → j < length ks → Contains (listed_at places c j) (get_or ks j 0)) → IsOpened found s c ks

-- a constructor, and children for each of its places among the classes, so that no class has more nodes than the tree over them
pub record IsOver {V : Type 0} (label : V → Label) (ranks : List ℕ) (found : List (Class V)) (c : ℕ) (ks : List ℕ) : Type 0 where
  pub low : c < length ranks
  pub wide : length ks ≡ get_or ranks c 0
  pub children : All (λ k. k < length found) ks
  pub above : (k : ℕ) → k < length found → get_or (counts_of (founds label found)) k 0 ≤ cost CAP (nodes_at (founds label found) ks)

module _ {A V W : Type 0} {label_of : V → Label} {holds : A → Label → Bool} (M : Meaning label_of holds W) where
  -- these are the rules whose demands the children meet, and labels that tell the guards of these apart are known under this
  -- number
  pub record AreToldAt (ranks : List ℕ) (own : List (Rules A)) (found : List (Class V)) (c : ℕ) (ks : List ℕ) (split : List (Splits V)) (key : Row) (number : ℕ) : Type 0 where
    pub splits : AreSplit M ranks own (class_rows found) split
    pub told : (R : Rules A) (s : Splits V) → get_or own c R ≡ R → get_or split c s ≡ s → (number < length s.told.items) × IsTold M R (class_rows_at found ks) key (get_or (lists_of s.told.items) number [])

module _ {A V W G : Type 0} {label_of : V → Label} {holds : A → Label → Bool} (M : Meaning label_of holds W) (ranks : List ℕ) (rules : List (Vec (StaRule A) G)) where
  -- the trees over these children are offered
  abbrev pub HasOffered : List (Class V) → ℕ → List ℕ → Pending V → Type 0
  HasOffered found c ks s = IsOpened ranks M.has M.keeps (meaning_of holds (plain_rules rules)) label_of found s c ks

  -- and so are those over all lists of kinds for the places of constructors before this one that the last class stands in,
  -- or over all lists before there are classes
  abbrev pub HasNewBefore : {H : Type 0} → List (Class V) → List (Vec Place H) → ℕ → Pending V → Type 0
  HasNewBefore found places n s = (c : ℕ) → c < n → (ks : List ℕ) → IsNewList (firsts_of (get_or (lists_of places) c [])) (length found) ks → HasOffered found c ks s

  -- the same of all constructors
  abbrev pub HasNewOffered : {H : Type 0} → List (Class V) → List (Vec Place H) → Pending V → Type 0
  HasNewOffered found places s = HasNewBefore found places (length ranks) s

  -- and so are those over all lists of kinds
  abbrev pub HasAllOffered : {H : Type 0} → List (Class V) → List (Vec Place H) → Pending V → Type 0
  HasAllOffered found places s = AreOpened ranks M.has M.keeps (meaning_of holds (plain_rules rules)) label_of found places s

  module _ (own : List (Rules A)) (most : ℕ) where
    -- a search under way: what is found and what is pending is sound, what is known of the kinds and of the rules is right, and
    -- there are not too many sets
    pub record IsUnderway (known : Known V) (offers : Offers V) : Type 0 where
      pub sound : IsSound ranks M.has M.keeps (meaning_of holds (plain_rules rules)) label_of known.classes.items offers.pending
      pub kinds : AreKinds ranks rules known.classes.items known.places.items
      pub splits : AreSplit M ranks own (class_rows known.classes.items) offers.splits.items
      pub few : length offers.pending.sets.keys ≤ most

    -- it goes on: nothing that was offered is lost, and this is offered, too
    pub record GoesOn (known : Known V) (old new : Offers V) (Offered : Pending V → Type 0) : Type 0 where
      pub under : IsUnderway known new
      pub better : IsBetter old.pending new.pending
      pub offered : Offered new.pending

    -- a search before its first turn
    pub record IsBegun (course : Course V) : Type 0 where
      pub none : course.known.classes.items ≡ []
      pub under : IsUnderway course.known course.offers

    -- a search between its turns: once the trees over the last class are offered, those over all lists of kinds are
    pub record IsGoing (course : Course V) : Type 0 where
      pub under : IsUnderway course.known course.offers
      pub rest : (s : Pending V) → IsBetter course.offers.pending s → HasNewOffered course.known.classes.items course.known.places.items s → HasAllOffered course.known.classes.items course.known.places.items s

  -- a search that has come to its end: these are all classes, each with a least tree, and they are not too many
  pub record IsWhole (most : ℕ) (known : Known V) : Type 0 where
    pub classes : AreFound M CAP ranks (plain_rules rules) known.classes.items
    pub complete : AreAllFound M CAP ranks (plain_rules rules) known.classes.items
    pub kinds : AreKinds ranks rules known.classes.items known.places.items
    pub few : length known.classes.items ≤ most

  -- what stops a search
  abbrev pub StopsSearch : ℕ → ClassStop W → Type 0
  StopsSearch most = StopsClasses M (record { ranks = ranks; rules = plain_rules rules }) most
