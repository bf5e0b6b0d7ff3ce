-- The table as the theory of rounds has it.
use Rattle.std.specs.Prelude.{ℕ, ◌≡◌, ◌<◌, Bool, List, [], map, get_or, length}
use Rattle.model_tree.specs.Label.{Label}
use Rattle.model_sta.specs.Least.{rows_of}
use Rattle.sta_core.specs.Sta.{automaton_of}
use Rattle.sta_classes.specs.Plain.{PlainTable, class_row, HasKinds}
use Rattle.sta_theory.specs.Blocks.{KindTable, AreBlocks}
use Rattle.sta_theory.specs.Rounds.{AreFirsts, block, IsSplitInto, IsDense}
use Rattle.model_sta.specs.Sets.{has}
use Rattle.label_core.specs.Meaning.{Meaning}
use Rattle.sta_classes.specs.Meant.{IsTableOf}
use Rattle.sta_min.specs.Kinds.{AreOfPlaces}
use Rattle.sta_min.specs.Values.{TellAllApart}
use Rattle.sta_theory.specs.Made.{numbers}

module _ {A V : Type 0} (label_of : V → Label) (holds : A → Label → Bool) (t : PlainTable A V) (values : List (List V)) (kinds : List (List (List ℕ))) where
  -- the classes that stand for kinds at the place; all where there is no such place
  abbrev pub listed : ℕ → ℕ → List ℕ
  listed c j = get_or (get_or kinds c []) j (numbers (length t.found))

  abbrev pub kind_table : KindTable Label
  kind_table = record {
    ranks = t.machine.ranks;
    rules = automaton_of holds t.machine;
    values = λ c. map label_of (get_or values c []);
    known = rows_of t.found;
    of_kinds = λ c j. map (class_row t) (listed c j);
  }

  -- what is read of a table: its classes, their kinds, and values that tell guards apart
  pub record IsSpace {W : Type 0} (M : Meaning label_of holds W) : Type 0 where
    pub table : IsTableOf M t.machine t
    pub has_kinds : HasKinds holds t
    pub tell : TellAllApart M t.machine.rules (length t.machine.ranks) values
    pub many : length kinds ≡ length t.machine.ranks
    pub of_kinds : (c : ℕ) → c < length t.machine.ranks → AreOfPlaces t c (get_or t.machine.ranks c 0) (get_or kinds c [])

-- blocks of classes that no node tells apart, each two of them told apart by a context, under numbers without gaps
pub record IsPartition {L : Type 0} (D : L → Type 0) (table : KindTable L) (start : ℕ) (firsts dense : List ℕ) : Type 0 where
  pub bs : List ℕ
  pub are_firsts : AreFirsts D table bs
  pub blocks : AreBlocks D table (λ q. has q start) (block D table bs)
  pub last : IsSplitInto D table bs bs
  pub numbers : IsDense (length table.known) bs firsts dense
