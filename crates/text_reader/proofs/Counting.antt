-- What each token does to the counts.
use lib.Dec.{leb}
use Rattle.model_program.specs.Lexeme.{Lexeme}
use Rattle.std.proofs.Common.{◌≡◌, nat_lt, ℕ, ◌+◌, ◌-◌, ◌≤◌, min, reverse, List, [], ◌∷◌, ◌++◌, length, refl, sym, ap, ◌∙◌, arith}
use Rattle.model_grammar.specs.Nesting.{Mark, round, square, part, item, close_round, close_square, level, limit, nested_at, nested_from}
use Rattle.std.proofs.lemmas.List.{reverse-append, reverse-reverse}
use Rattle.text_reader.specs.declared.nesting.Levels.{Levels}
use Rattle.text_reader.specs.Counts.{open_in, outer_limit, floors, capped, settled, Counts}

-- the first number, which stands for the newest `[`
abbrev pub head_of : List ℕ → ℕ
head_of [] = 0
head_of (n ∷ ns) = n

pub capped_twice : (a b : ℕ) (ns : List ℕ) → capped a (capped b ns) ≡ capped (min a b) ns
capped_twice a b [] = refl
capped_twice a b (n ∷ ns) = let e : min a (min b n) ≡ min (min a b) n = omega arith in ap2 e (capped_twice a b ns)
  where
    ap2 : {x y : ℕ} {xs ys : List ℕ} → x ≡ y → xs ≡ ys → x ∷ xs ≡ y ∷ ys
    ap2 e f = λ i. e i ∷ f i

-- none of the numbers is greater
abbrev pub AllWithin : ℕ → List ℕ → Type 0
AllWithin most [] = Unit {0}
AllWithin most (n ∷ ns) = (n ≤ most) × AllWithin most ns

within_more : (a b : ℕ) (ns : List ℕ) → a ≤ b → AllWithin a ns → AllWithin b ns
within_more a b [] le all = tt
within_more a b (n ∷ ns) le all = let h = all.0 in ((let e : n ≤ b = omega arith in e), within_more a b ns le all.1)

capped_same : (most : ℕ) (ns : List ℕ) → AllWithin most ns → capped most ns ≡ ns
capped_same most [] all = refl
capped_same most (n ∷ ns) all = let h = all.0 in let e : min most n ≡ n = omega arith in let f = capped_same most ns all.1 in λ i. e i ∷ f i

pub floors_within : (marks : List Mark) → AllWithin (open_in marks) (floors marks)
floors_within [] = (omega arith, tt)
floors_within (round ∷ marks) = within_more (open_in marks) (1 + open_in marks) (floors marks) (omega arith) (floors_within marks)
floors_within (square ∷ marks) = (omega arith, floors_within marks)
floors_within (part ∷ marks) = (omega arith, tt)
floors_within (item ∷ marks) = (omega arith, tt)

-- a `)`

pub closed_open : (marks : List Mark) → open_in (close_round marks) ≡ open_in marks - 1
closed_open [] = refl
closed_open (round ∷ marks) = omega arith
closed_open (square ∷ marks) = closed_open marks
closed_open (part ∷ marks) = refl
closed_open (item ∷ marks) = refl

pub closed_limit : (marks : List Mark) → outer_limit (close_round marks) ≡ outer_limit marks
closed_limit [] = refl
closed_limit (round ∷ marks) = refl
closed_limit (square ∷ marks) = closed_limit marks
closed_limit (part ∷ marks) = refl
closed_limit (item ∷ marks) = refl

pub closed_floors : (marks : List Mark) → floors (close_round marks) ≡ capped (open_in marks - 1) (floors marks)
closed_floors [] = refl
closed_floors (round ∷ marks) = let e : 1 + open_in marks - 1 ≡ open_in marks = omega arith in sym (ap (λ n. capped n (floors marks)) e ∙ capped_same (open_in marks) (floors marks) (floors_within marks))
closed_floors (square ∷ marks) = let e : open_in (close_round marks) ≡ min (open_in marks - 1) (open_in marks) = closed_open marks ∙ (let f : open_in marks - 1 ≡ min (open_in marks - 1) (open_in marks) = omega arith in f) in
    let g = closed_floors marks in λ i. e i ∷ g i
closed_floors (part ∷ marks) = refl
closed_floors (item ∷ marks) = refl

-- a `]`

abbrev pub tail_floors : List ℕ → List ℕ
tail_floors [] = []
tail_floors (n ∷ []) = n ∷ []
tail_floors (n ∷ (m ∷ ns)) = m ∷ ns

pub square_open : (marks : List Mark) → open_in (close_square marks) ≡ open_in marks
square_open [] = refl
square_open (round ∷ marks) = ap (λ n. 1 + n) (square_open marks)
square_open (square ∷ marks) = refl
square_open (part ∷ marks) = refl
square_open (item ∷ marks) = refl

pub square_limit : (marks : List Mark) → outer_limit (close_square marks) ≡ outer_limit marks
square_limit [] = refl
square_limit (round ∷ marks) = square_limit marks
square_limit (square ∷ marks) = refl
square_limit (part ∷ marks) = refl
square_limit (item ∷ marks) = refl

-- there is a floor
abbrev IsSome : List ℕ → Type 0
IsSome [] = ⊥
IsSome (n ∷ ns) = Unit {0}

some_floor : (marks : List Mark) → IsSome (floors marks)
some_floor [] = tt
some_floor (round ∷ marks) = some_floor marks
some_floor (square ∷ marks) = tt
some_floor (part ∷ marks) = tt
some_floor (item ∷ marks) = tt

tail_of_some : (n : ℕ) (ns : List ℕ) → IsSome ns → tail_floors (n ∷ ns) ≡ ns
tail_of_some n [] is = absurd is
tail_of_some n (m ∷ ns) is = refl

pub square_floors : (marks : List Mark) → floors (close_square marks) ≡ tail_floors (floors marks)
square_floors [] = refl
square_floors (round ∷ marks) = square_floors marks
square_floors (square ∷ marks) = sym (tail_of_some (open_in marks) (floors marks) (some_floor marks))
square_floors (part ∷ marks) = refl
square_floors (item ∷ marks) = refl

-- the level and its limit

pub level_is : (marks : List Mark) → level marks + head_of (floors marks) ≡ open_in marks
level_is [] = refl
level_is (round ∷ marks) = let e = level_is marks in omega arith
level_is (square ∷ marks) = omega arith
level_is (part ∷ marks) = refl
level_is (item ∷ marks) = refl

-- the limit by whether a `[` is open
abbrev pub limit_by : List ℕ → ℕ → ℕ
limit_by [] outer = outer
limit_by (n ∷ []) outer = outer
limit_by (n ∷ (m ∷ ns)) outer = 64

limit_by_some : (n outer : ℕ) (ns : List ℕ) → IsSome ns → limit_by (n ∷ ns) outer ≡ 64
limit_by_some n outer [] is = absurd is
limit_by_some n outer (m ∷ ns) is = refl

pub limit_is : (marks : List Mark) → limit marks ≡ limit_by (floors marks) (outer_limit marks)
limit_is [] = refl
limit_is (round ∷ marks) = limit_is marks
limit_is (square ∷ marks) = sym (limit_by_some (open_in marks) (outer_limit marks) (floors marks) (some_floor marks))
limit_is (part ∷ marks) = refl
limit_is (item ∷ marks) = refl

-- The code's counts.

settled_capped : (most n : ℕ) (ns : List ℕ) → settled (min most n ∷ ns) ≡ capped most (settled (n ∷ ns))
settled_capped most n ns = ap (λ l. min most n ∷ l) (sym (capped_twice most n (settled ns)))

pub counts_closed : (before after : Levels) (marks : List Mark) → Counts before marks → after.limit ≡ before.limit → after.rounds ≡ before.rounds - 1 → after.floor ≡ min before.floor after.rounds → after.hidden ≡ before.hidden → Counts after (close_round marks)
counts_closed before after marks counts same_limit fewer sunk same_hidden = record {
  limit = same_limit ∙ counts.limit ∙ sym (closed_limit marks);
  rounds = fewer ∙ ap (λ n. n - 1) counts.rounds ∙ sym (closed_open marks);
  floors_are = (λ i. settled (floor_is i ∷ reverse (same_hidden i).items)) ∙ settled_capped after.rounds before.floor (reverse before.hidden.items) ∙ (λ i. capped (most i) (counts.floors_are i)) ∙ sym (closed_floors marks);
}
  where
    floor_is : after.floor ≡ min after.rounds before.floor
    floor_is = sunk ∙ (let e : min before.floor after.rounds ≡ min after.rounds before.floor = omega arith in e)

    most : after.rounds ≡ open_in marks - 1
    most = fewer ∙ ap (λ n. n - 1) counts.rounds

pub counts_opened : (before after : Levels) (marks : List Mark) → Counts before marks → after.limit ≡ before.limit → after.rounds ≡ before.rounds → after.floor ≡ before.rounds → after.hidden.items ≡ before.hidden.items ++ before.floor ∷ [] → Counts after (square ∷ marks)
counts_opened before after marks counts same_limit same_rounds floor_is pushed = record {
  limit = same_limit ∙ counts.limit;
  rounds = same_rounds ∙ counts.rounds;
  floors_are = (λ i. settled ((floor_is ∙ counts.rounds) i ∷ (ap reverse pushed ∙ reverse-append before.hidden.items (before.floor ∷ [])) i)) ∙ ap (λ l. open_in marks ∷ capped (open_in marks) l) counts.floors_are ∙ ap (λ l. open_in marks ∷ l) (capped_same (open_in marks) (floors marks) (floors_within marks));
}

pub counts_popped : (before after : Levels) (below : ℕ) (marks : List Mark) → Counts before marks → after.limit ≡ before.limit → after.rounds ≡ before.rounds → after.floor ≡ min before.floor below → before.hidden.items ≡ after.hidden.items ++ below ∷ [] → Counts after (close_square marks)
counts_popped before after below marks counts same_limit same_rounds floor_is popped = record {
  limit = same_limit ∙ counts.limit ∙ sym (square_limit marks);
  rounds = same_rounds ∙ counts.rounds ∙ sym (square_open marks);
  floors_are = ap (λ n. settled (n ∷ reverse after.hidden.items)) floor_is ∙ settled_capped before.floor below (reverse after.hidden.items) ∙ sym (ap (λ l. tail_floors (settled (before.floor ∷ l))) (ap reverse popped ∙ reverse-append after.hidden.items (below ∷ []))) ∙ ap tail_floors counts.floors_are ∙ sym (square_floors marks);
}

pub counts_bottom : (before after : Levels) (marks : List Mark) → Counts before marks → after.limit ≡ before.limit → after.rounds ≡ before.rounds → after.floor ≡ before.floor → before.hidden.items ≡ [] → after.hidden.items ≡ [] → Counts after (close_square marks)
counts_bottom before after marks counts same_limit same_rounds same_floor was is = record {
  limit = same_limit ∙ counts.limit ∙ sym (square_limit marks);
  rounds = same_rounds ∙ counts.rounds ∙ sym (square_open marks);
  floors_are = (λ i. settled (same_floor i ∷ reverse (is i))) ∙ sym (ap (λ l. tail_floors (settled (before.floor ∷ reverse l))) was) ∙ ap tail_floors counts.floors_are ∙ sym (square_floors marks);
}

-- the level of the next `(`, and its limit

pub level_here : (levels : Levels) (marks : List Mark) → Counts levels marks → level marks + levels.floor ≡ levels.rounds
level_here levels marks counts = let a = level_is marks in let b : levels.floor ≡ head_of (floors marks) = ap head_of counts.floors_are in let c = counts.rounds in omega arith

pub limit_outside : (levels : Levels) (marks : List Mark) → Counts levels marks → levels.hidden.items ≡ [] → levels.limit ≡ limit marks
limit_outside levels marks counts none = sym (limit_is marks ∙ sym (λ i. limit_by (counts.floors_are i) (counts.limit i)) ∙ ap (λ l. limit_by (settled (levels.floor ∷ reverse l)) levels.limit) none)

pub limit_inside : (levels : Levels) (marks : List Mark) → Counts levels marks → (levels.hidden.items ≡ [] → ⊥) → 64 ≡ limit marks
limit_inside levels marks counts some = sym (limit_is marks ∙ sym (ap (λ l. limit_by l (outer_limit marks)) counts.floors_are) ∙ inside (levels.hidden.items) some)
  where
    of_some : (n m outer : ℕ) (ns : List ℕ) → limit_by (settled (n ∷ (m ∷ ns))) outer ≡ 64
    of_some n m outer ns = refl

    not_none : (ns : List ℕ) → (ns ≡ [] → ⊥) → limit_by (settled (levels.floor ∷ ns)) (outer_limit marks) ≡ 64
    not_none [] none = absurd (none refl)
    not_none (m ∷ ns) none = of_some levels.floor m (outer_limit marks) ns

    inside : (items : List ℕ) → (items ≡ [] → ⊥) → limit_by (settled (levels.floor ∷ reverse items)) (outer_limit marks) ≡ 64
    inside items some = not_none (reverse items) (λ e. some (sym (reverse-reverse items) ∙ ap reverse e))

pub full_is : (level_now limit_now level_was limit_was : ℕ) → limit_now ≡ limit_was → level_now ≡ level_was → leb limit_now level_now ≡ nat_lt limit_was (1 + level_was)
full_is level_now limit_now level_was limit_was same_limit same_level = (λ i. leb (same_limit i) (same_level i)) ∙ grind arith

pub none_hidden : (ns : List ℕ) → length ns ≡ 0 → ns ≡ []
none_hidden [] e = refl
none_hidden (n ∷ ns) e = absurd (omega arith)

pub some_hidden : (ns : List ℕ) → (length ns ≡ 0 → ⊥) → ns ≡ [] → ⊥
some_hidden [] some e = some refl
some_hidden (n ∷ ns) some e = cc

-- A loop.

-- what is asked of all tokens is asked of the rest, behind the marks that are counted
pub record IsUnderWay (tokens rest : List Lexeme) (levels : Levels) : Type 0 where
  pub marks : List Mark
  pub counts : Counts levels marks
  pub same : nested_at tokens ≡ nested_from marks rest
