-- The steps of showing a chain.
use Rattle.std.proofs.Common.{◌≡◌, ℕ, suc, ◌+◌, ◌-◌, ◌<◌, ◌≤◌, List, [], ◌∷◌, ◌++◌, map, length, drop, get_or, Bool, true, cond, ap, sym, ◌∙◌, arith, append_assoc}
use Rattle.std.proofs.lemmas.List.{at_drop_more, at_drop_all, get_or-reverse, get_or-map, length-reverse, length-map}
use Rattle.cooper_solve.specs.Told.{put_of, puts_of}
use Rattle.cooper_solve.specs.declared.found.Put.{Put}
use Rattle.model_chain.specs.Literals.{needs_side, own_side, later_sides}
use Rattle.model_chain.specs.Chains.{Choice, side, take_put, side_choices}
use Rattle.label_core.specs.declared.theory.Lit.{Lit}
use Rattle.lin_solve.specs.declared.compare.Compare.{Compare}
use Rattle.lin_solve.specs.Plain.{plain_literal, plain_literals}
use Rattle.lin_solve.proofs.Pushed.{sides_step}

pub choices_step : (ls : List (Lit Compare)) (k : ℕ) (l : Lit Compare) (sides : List Bool) (next : ℕ) (needed own : Bool) → k < length ls → l ≡ get_or ls k l → needed ≡ needs_side (plain_literal l) → own ≡ cond needed (get_or (drop next sides) 0 true) true
    → side_choices k (plain_literals (drop k ls)) (drop next sides) ≡ cond needed (side k own ∷ []) [] ++ side_choices (k + 1) (plain_literals (drop (k + 1) ls)) (drop (cond needed (next + 1) next) sides)
choices_step ls k l sides next needed own h is n s =
    let mine : own ≡ own_side (plain_literal l) (drop next sides) = s ∙ ap (λ b. cond b (get_or (drop next sides) 0 true) true) n in
    let later : later_sides (plain_literal l) (drop next sides) ≡ drop (cond needed (next + 1) next) sides = ap (λ b. cond b (drop 1 (drop next sides)) (drop next sides)) (sym n) ∙ sides_step sides next needed in
    at_drop_more (λ us. side_choices k (plain_literals us) (drop next sides)) ls k l h
    ∙ ap (λ (x : Lit Compare). side_choices k (plain_literal x ∷ plain_literals (drop (k + 1) ls)) (drop next sides)) (sym is)
    ∙ (λ i. cond (sym n i) (side k (sym mine i) ∷ []) [] ++ side_choices (suc k) (plain_literals (drop (k + 1) ls)) (later i))
    ∙ ap (λ m. cond needed (side k own ∷ []) [] ++ side_choices m (plain_literals (drop (k + 1) ls)) (drop (cond needed (next + 1) next) sides)) (omega arith)

pub choices_end : (ls : List (Lit Compare)) (k : ℕ) (sides : List Bool) → length ls ≤ k → side_choices k (plain_literals (drop k ls)) sides ≡ []
choices_end ls k sides h = at_drop_all (λ us. side_choices k (plain_literals us) sides) ls k h

pub went_on : (start before own rest now : List Choice) → before ++ (own ++ rest) ≡ start → now ≡ before ++ own → now ++ rest ≡ start
went_on start before own rest now e f = ap (λ l. l ++ rest) f ∙ append_assoc before own rest ∙ e

pub puts_step : (puts : List Put) (k : ℕ) (p : Put) → k < length puts → map take_put (drop k (puts_of puts)) ≡ take_put (put_of (get_or puts (length puts - 1 - k) p)) ∷ map take_put (drop (k + 1) (puts_of puts))
puts_step puts k p h =
    let many : length (map put_of puts) ≡ length puts = length-map puts put_of in
    let whole : length (puts_of puts) ≡ length puts = length-reverse (map put_of puts) ∙ many in
    let own : get_or (puts_of puts) k (put_of p) ≡ put_of (get_or puts (length puts - 1 - k) p) =
    get_or-reverse (map put_of puts) k (put_of p) (omega arith) ∙ ap (λ n. get_or (map put_of puts) (n - 1 - k) (put_of p)) many
    ∙ get_or-map put_of puts (length puts - 1 - k) p (put_of p) (omega arith) in
    at_drop_more (map take_put) (puts_of puts) k (put_of p) (omega arith) ∙ ap (λ x. take_put x ∷ map take_put (drop (k + 1) (puts_of puts))) own
