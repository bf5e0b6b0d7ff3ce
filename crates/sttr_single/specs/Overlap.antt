-- Rules of a state that meet: both apply to some tree, and their terms aren't equal.
use Rattle.std.specs.Prelude.{◌≡◌, ◌⊎◌, ◌<◌, ◌≤◌, ℕ, Bool, true, ◌&&◌, List, [], ◌++◌, Some, map, get_or, slice_get}
use Rattle.std.specs.List.{flat_map}
use Rattle.model_tree.specs.Limits.{most_nodes}
use Rattle.model_tree.specs.Label.{Label}
use Rattle.model_tree.specs.Tree.{LabelTree, relabel, node_count, depth}
use Rattle.model_tree.specs.Formula.{Formula}
use Rattle.model_sta.specs.Automaton.{rule_applies}
use Rattle.model_sta.specs.Sets.{Fits}
use Rattle.model_sta.specs.Told.{AreTold, HasMoreApart}
use Rattle.model_sttr.specs.Plain.{PlainOut}
use Rattle.label_core.specs.Meaning.{Meaning}
use Rattle.sta_core.specs.Machine.{PlainRule}
use Rattle.sta_core.specs.Sta.{automaton_of, rule_meaning}
use Rattle.sta_classes.specs.Guards.{all_guards}
use Rattle.sta_classes.specs.Stop.{ClassStopsFor}
use Rattle.sta_classes.specs.declared.stop.ClassStop.{ClassStop}
use Rattle.sttr_core.specs.Machine.{OutMachine}
use Rattle.sttr_single.specs.Same.{AreEqual}
use Rattle.sttr_single.specs.declared.meetings.Meeting.{Meeting}
use Rattle.sttr_single.specs.declared.meetings.OverlapFound.{OverlapFound}
use Rattle.sttr_single.specs.declared.meetings.OverlapFound.TheVariants.{Plain, Meets, TooBig}

module _ {A M : Type 0} (holds : A → Label → Bool) (map_eq : M → M → Bool) (f : OutMachine A M) where
  -- the rule applies to the tree
  abbrev pub applies : PlainOut (PlainRule A) M → LabelTree → Bool
  applies r t = rule_applies (automaton_of holds f.looks) t (rule_meaning holds r.rule)

  -- two rules of a state, the first before the second, with terms that aren't equal
  pub record AreUnlike (q i j : ℕ) (r s : PlainOut (PlainRule A) M) : Type 0 where
    pub in_order : i < j
    pub first : slice_get (get_or f.rules q []) i ≡ Some r
    pub second : slice_get (get_or f.rules q []) j ≡ Some s
    pub unlike : ¬ (AreEqual map_eq r.term s.term)

  -- both apply to the tree
  abbrev pub Meet : ℕ → ℕ → ℕ → LabelTree → Type 0
  Meet q i j t = (r s : PlainOut (PlainRule A) M) × AreUnlike q i j r s × (applies r t ≡ true) × (applies s t ≡ true)

  -- some rules meet at the tree
  abbrev pub MeetSome : LabelTree → Type 0
  MeetSome t = (q i j : ℕ) × Meet q i j t

  -- a state of the lookahead accepts exactly one of two trees, or to exactly one of them two such rules both apply
  abbrev pub AreToldByMeeting : LabelTree → LabelTree → Type 0
  AreToldByMeeting t u =
      AreTold (automaton_of holds f.looks) t u
      ⊎ ((q i j : ℕ) × (r s : PlainOut (PlainRule A) M) × AreUnlike q i j r s × ¬ ((applies r t && applies s t) ≡ (applies r u && applies s u)))

-- all guards, of the lookahead and of the rules
abbrev pub guards_of : {A M : Type 0} → OutMachine A M → List (Formula A)
guards_of f = all_guards f.looks.rules ++ flat_map (λ rules. map (λ r. r.rule.guard) rules) f.rules

module _ {A M V W : Type 0} (map_eq : M → M → Bool) {label_of : V → Label} {holds : A → Label → Bool} (N : Meaning label_of holds W) (f : OutMachine A M) (most : ℕ) where
  -- the rules meet at the tree that is shown, whose labels are kept
  pub record IsMeeting (m : Meeting V) : Type 0 where
    pub fits : Fits f.looks.ranks N.keeps (relabel label_of m.tree)
    pub meet : Meet holds map_eq f m.state m.first m.second (relabel label_of m.tree)
    pub small : node_count (relabel label_of m.tree) ≤ most_nodes
    pub shallow : depth (relabel label_of m.tree) ≤ most

  -- rules meet at some tree, and each tree where they do has more nodes than one that is shown
  pub record HasBigMeetings : Type 0 where
    pub tree : LabelTree
    pub fits : Fits f.looks.ranks N.has tree
    pub meet : MeetSome holds map_eq f tree
    pub big : (t : LabelTree) → Fits f.looks.ranks N.has t → MeetSome holds map_eq f t → most_nodes < node_count t

  -- over all labels of the meaning
  abbrev pub IsOverlap : OverlapFound V → Type 0
  IsOverlap Plain = (t : LabelTree) → Fits f.looks.ranks N.has t → ¬ (MeetSome holds map_eq f t)
  IsOverlap (Meets m) = IsMeeting m
  IsOverlap TooBig = HasBigMeetings

  -- states of the lookahead and rules that both apply tell more than so many trees over kept labels apart, or a chain over the
  -- guards is too wide
  abbrev pub StopsOverlap : ClassStop W → Type 0
  StopsOverlap = ClassStopsFor N (HasMoreApart (Fits f.looks.ranks N.keeps) (AreToldByMeeting holds map_eq f) most) (guards_of f)
