-- The laws of this crate, over labels of the meaning that a test tells.
use Rattle.std.specs.Prelude.{ℕ, suc, ◌+◌, ◌≡◌, ◌<◌, ◌↔◌, Bool, IsTrue, List, [], ◌∷◌, get_or, length, Contains}
use Rattle.model_tree.specs.Tree.{Tree}
use Rattle.model_sta.specs.Automaton.{Rule, rules_of, is_accepted}
use Rattle.model_sta.specs.Sets.{Row, has, set_of, Fits}
use Rattle.model_sta.specs.Reached.{Apart, IsComplete}
use Rattle.model_sta.specs.Operations.{Auto, AgreeIn, KeepsGuards, IsUnion, IsIntersection, IsDifference, IsComplement}
use Rattle.model_sta.specs.Told.{AreOwn, IsBeside}
use Rattle.sta_theory.specs.Parts.{IsPart}
use Rattle.sta_theory.specs.Opposite.{AreOpposites, IsDoubled}
use Rattle.sta_theory.specs.Built.{AreRulesOf}
use Rattle.sta_theory.specs.Made.{AsksNext, AreNext, AreBegun, AreMade, rules_for}
use Rattle.sta_theory.specs.Beside.{IsEither, IsPaired}
use Rattle.sta_theory.specs.Contexts.{AreToldApart}
use Rattle.sta_theory.specs.Blocks.{KindTable, IsKindTable, IsStable, AreBlocks, AreNumbered, member_of}
use Rattle.sta_theory.specs.Rounds.{room, AreFirsts, IsStart, IsSplitInto, block, block_of, row_at}
use Rattle.sta_theory.specs.Minimal.{next_block, AreFree, IsWritten, IsRefined, IsLeast}

abbrev Told : {L : Type 0} → (L → Bool) → L → Type 0
Told d l = IsTrue (d l)

-- ---- operations

-- an automaton with a state for "not s" beside each state s has the complement
abbrev pub NotIsComplement : Type 0 → Type 0
NotIsComplement L = (opp : ℕ → ℕ) (ranks : List ℕ) (d : L → Bool) (known : List Row) (a c : Auto L) → AreOwn a.rules → IsComplete ranks (Told d) a.rules known → IsDoubled opp ranks known a.rules c.rules
    → a.start < length a.rules → c.start ≡ opp a.start → IsComplement (Fits ranks (Told d)) a c × KeepsGuards a a c

abbrev pub EitherIsUnion : Type 0 → Type 0
EitherIsUnion L = (ranks : List ℕ) (d : L → Bool) (a b c : Auto L) → AreOwn a.rules → AreOwn b.rules → IsEither a b c → IsUnion (Fits ranks (Told d)) a b c × KeepsGuards a b c

abbrev pub PairedIsIntersection : Type 0 → Type 0
PairedIsIntersection L = (ranks : List ℕ) (d : L → Bool) (a b c : Auto L) → AreOwn a.rules → AreOwn b.rules → IsPaired a b c → IsIntersection (Fits ranks (Told d)) a b c × KeepsGuards a b c

-- the difference is the intersection with the complement
abbrev pub DifferenceByBoth : Type 0 → Type 0
DifferenceByBoth L = (ranks : List ℕ) (d : L → Bool) (a b c e : Auto L) → b.start < length b.rules → IsComplement (Fits ranks (Told d)) b c → KeepsGuards b b c → IsIntersection (Fits ranks (Told d)) a c e → KeepsGuards a c e
    → IsDifference (Fits ranks (Told d)) a b e × KeepsGuards a b e

-- two languages are one where no set of both automata side by side has exactly one of the two starts
abbrev pub EqualByBoth : Type 0 → Type 0
EqualByBoth L = (ranks : List ℕ) (d : L → Bool) (known : List Row) (a b : Auto L) (rules : List (List (Rule L))) → AreOwn a.rules → AreOwn b.rules → IsBeside a.rules b.rules rules → a.start < length a.rules → b.start < length b.rules
    → (IsComplete ranks (Told d) rules known → ((q : Row) → Contains known q → has q a.start ≡ has q (length a.rules + b.start)) → (t : Tree L) → Fits ranks (Told d) t → is_accepted a.rules t a.start ≡ is_accepted b.rules t b.start)
    × ((t : Tree L) → ¬ (has (set_of rules t) a.start ≡ has (set_of rules t) (length a.rules + b.start)) → ¬ (is_accepted a.rules t a.start ≡ is_accepted b.rules t b.start))

-- a part of an automaton accepts what the whole does, and has no other guards
abbrev pub PartIsSame : Type 0 → Type 0
PartIsSame L = (old : ℕ → ℕ) (whole part : List (List (Rule L))) → IsPart old whole part
    → ((t : Tree L) (q : ℕ) → q < length part → is_accepted whole t (old q) ≡ is_accepted part t q) × ((l m : L) → AgreeIn whole l m → AgreeIn part l m)

-- ---- rounds

-- blocks of sets that are final alike are told apart by contexts
abbrev pub RoundsStart : Type 0 → Type 0
RoundsStart L = (d : L → Bool) (table : KindTable L) → IsKindTable (Told d) table → Apart table.known → (final : Row → Bool) (bs : List ℕ) → IsStart (Told d) table bs final
    → AreFirsts (Told d) table bs × AreBlocks (Told d) table final (block (Told d) table bs)

-- and so are those of each round, which has less room left unless it changes nothing
abbrev pub RoundsGoOn : Type 0 → Type 0
RoundsGoOn L = (d : L → Bool) (table : KindTable L) → IsKindTable (Told d) table → Apart table.known → (final : Row → Bool) (bs finer : List ℕ)
    → AreFirsts (Told d) table bs → AreBlocks (Told d) table final (block (Told d) table bs) → IsSplitInto (Told d) table bs finer
    → AreFirsts (Told d) table finer × AreBlocks (Told d) table final (block (Told d) table finer) × (¬ (bs ≡ finer) → room (length table.known) finer < room (length table.known) bs)

-- after a round that changes nothing the automaton of the blocks is the least one
abbrev pub RoundsEnd : Type 0 → Type 0
RoundsEnd L = (d : L → Bool) (table : KindTable L) → IsKindTable (Told d) table → Apart table.known → (a c : Auto L) → table.rules ≡ a.rules → (bs firsts dense finals : List ℕ) → IsRefined (Told d) table a.start bs firsts dense finals
    → (free : ℕ → ℕ → Bool) → AreFree table free
    → IsWritten table.ranks (Told d) a (length firsts) finals (next_block table (block_of table.known dense (length firsts)) (λ k. row_at (Told d) table bs (get_or firsts k 0))) free c
    → IsLeast table.ranks (Told d) a c (length firsts) finals

-- the blocks of a stable partition are exactly what contexts tell apart
abbrev pub BlocksByContexts : Type 0 → Type 0
BlocksByContexts L = (d : L → Bool) (table : KindTable L) → IsKindTable (Told d) table → (final : Row → Bool) (blocks : Row → ℕ) (n : ℕ) (one_of : ℕ → Row) (accepting : ℕ → Bool)
    → AreBlocks (Told d) table final blocks → IsStable (Told d) table blocks → AreNumbered (Told d) table final n one_of accepting blocks → (s t : Tree L) → Fits table.ranks (Told d) s → Fits table.ranks (Told d) t
    → AreToldApart table.ranks (Told d) (member_of (Told d) table final) s t ↔ (¬ (blocks (set_of table.rules s) ≡ blocks (set_of table.rules t)))

-- ---- how rules are made

-- nodes are begun with no children, and go on place by place
abbrev pub NodesBegin : Type 0 → Type 0 → Type 0
NodesBegin L X = (opp : ℕ → ℕ) (rs : List (Rule L)) (rows : X → List Row) (demands : X → List (List ℕ)) (c : ℕ) (known : List Row) (x : X) → rows x ≡ [] → demands x ≡ [] → AreBegun opp rs rows demands c known 0 (x ∷ [])

abbrev pub NodesGoOn : Type 0 → Type 0 → Type 0
NodesGoOn L X = (opp : ℕ → ℕ) (rs : List (Rule L)) (rows : X → List Row) (demands : X → List (List ℕ)) (c : ℕ) (known : List Row) (n : ℕ) (xs ys : List X)
    → AreBegun opp rs rows demands c known n xs → AreNext opp rows demands (AsksNext rs c) known xs ys → AreBegun opp rs rows demands c known (suc n) ys

-- the rules for all nodes are those of "not s"
abbrev pub OppositesAreMade : Type 0 → Type 0 → Type 0
OppositesAreMade L X = (opp : ℕ → ℕ) (rs : List (Rule L)) (rows : X → List Row) (demands : X → List (List ℕ)) (ranks : List ℕ) (known : List Row) (those : List (Rule L))
    → AreMade opp rs rows demands ranks known (length ranks) those → AreOpposites opp rs ranks known those

-- and rules for all combinations of states, or of one state at a free place, are those of a machine
abbrev pub RulesAreMade : Type 0 → Type 0
RulesAreMade L = (ranks : List ℕ) (d : L → Bool) (n : ℕ) → 0 < n → (next : ℕ → L → List ℕ → ℕ) (free : ℕ → ℕ → Bool) (rules : List (List (Rule L)))
    → ((i : ℕ) → i < n → rules_of rules i ≡ rules_for n next free i 0 ranks) → AreRulesOf ranks (Told d) n next free rules
