-- What the search over sides decides.
use Rattle.std.proofs.Common.{◌≡◌, ℕ, ◌<◌, inl, inr, List, [], ◌++◌, map, length, take, get_or, Bool, true, false, ap, sym, ◌∙◌, subst}
use Rattle.std.proofs.Math.IntN.{ℤ, pos}
use Rattle.std.specs.Prelude.{FitsSigned}
use Rattle.std.specs.Int.{w64}
use Rattle.math_cooper.specs.System.{IsSolvable}
use Rattle.math_cooper.specs.Puts.{Put, Passes128}
use Rattle.model_chain.specs.Literals.{Literal, AreLiteralsOver, HoldsAll, count_sides}
use Rattle.model_chain.specs.Chains as chains
use Rattle.model_chain.specs.Chains.{first_system, count_variables, Passes, IsFar, HasWide}
use Rattle.model_chain.specs.Sides.{HoldWith}
use Rattle.model_chain.specs.Laws.{AreDivisorsPositive}
use Rattle.model_chain.proofs.Exact.{first_solvable}
use Rattle.model_chain.proofs.Sided.{hold_out, hold_in}
use Rattle.model_chain.proofs.Meaning.{solution_holds, bounded_inside}
use Rattle.model_chain.proofs.Made.{made, wide_chain, far_chain}
use Rattle.cooper_solve.specs.Told.{IsSolved, IsFarOff, puts_of}
use Rattle.label_core.specs.declared.theory.Lit.{Lit}
use Rattle.lin_solve.specs.declared.compare.Compare.{Compare}
use Rattle.lin_solve.specs.declared.chain.Chain.{Chain}
use Rattle.lin_solve.specs.Tried.{TellsSides}
use Rattle.lin_solve.specs.declared.tried.Stuck.{Stuck}
use Rattle.lin_solve.specs.declared.tried.Tried.TheVariants.{Far, Wide, Unsat}
use Rattle.lin_solve.specs.Plain.{plain_literals}
use Rattle.lin_solve.specs.Shown.{bits_of, is_bounded, plain_choice, plain_chain, PassesWidth, choices_of, AllKept}

pub sat_for : (ls : List Literal) (b : Bool) (sides : List Bool) (ps : List Put) (us : List ℤ) → AreLiteralsOver 8 ls → IsSolved (count_variables ls) (first_system ls b sides) ps us → (length us ≡ 8) × HoldsAll ls us
sat_for ls b sides ps us over s =
    let h = solution_holds ls b sides ps s.values over s.is in
    (ap length s.shown ∙ h.0, subst (HoldsAll ls) (sym s.shown) (hold_out ls sides (take 8 s.values) h.1))

pub unsat_for : (ls : List Literal) (b : Bool) (us : List ℤ) → AreLiteralsOver 8 ls → AreDivisorsPositive ls → ((sides : List Bool) → length sides ≡ count_sides ls → IsSolvable (count_variables ls) (first_system ls b sides) → ⊥)
    → length us ≡ 8 → (b ≡ true → (k : ℕ) → k < 8 → FitsSigned w64 (get_or us k (pos 0))) → HoldsAll ls us → ⊥
unsat_for ls b us over some none e fits h = by (hold_in ls us h)
  where
    by : (sides : List Bool) × (length sides ≡ count_sides ls) × HoldWith ls sides us → ⊥
    by (sides, l, w) = none sides l (first_solvable ls b sides us over some e w fits)

pub kept_at : (us : List ℤ) → length us ≡ 8 → AllKept us → (k : ℕ) → k < 8 → FitsSigned w64 (get_or us k (pos 0))
kept_at us e h k l = h k (pos 0) (subst (λ n. k < n) (sym e) l)

-- the chain shown is the one of these sides and puts
shown_is : (lits : List (Lit Compare)) (c : Chain) (b : Bool) (sides : List Bool) (ps : List Put) → c.literals.items ≡ lits → map plain_choice c.choices.items ≡ choices_of (plain_literals lits) sides ps → is_bounded c.width ≡ b → plain_chain c ≡ made (plain_literals lits) b sides ps
shown_is lits c b sides ps e f g = λ i. record { literals = plain_literals (e i); choices = f i; bounded = g i }

abbrev Shows : List (Lit Compare) → Chain → Type 0
Shows ls c = (c.literals.items ≡ ls) × PassesWidth c × (IsFar (plain_chain c) → (us : List ℤ) → length us ≡ 8 → AllKept us → HoldsAll (plain_literals ls) us → ⊥)

pub wide_for : (lits : List (Lit Compare)) (c : Chain) (b : Bool) (sides : List Bool) (ps : List Put) → c.literals.items ≡ lits → map plain_choice c.choices.items ≡ choices_of (plain_literals lits) sides ps → is_bounded c.width ≡ b → bits_of c.width ≡ 128
    → length sides ≡ count_sides (plain_literals lits) → Passes128 (count_variables (plain_literals lits)) (first_system (plain_literals lits) b sides) ps
    → (b ≡ true → (D : chains.Chain) × (D.literals ≡ plain_literals lits) × IsFar D) → Shows lits c
wide_for lits c b sides ps e f g bits l h far =
    let is = shown_is lits c b sides ps e f g in
    let wide = subst HasWide (sym is) (wide_chain (plain_literals lits) b sides ps l h) in
    let other : is_bounded c.width ≡ true → (D : chains.Chain) × (D.literals ≡ plain_literals c.literals.items) × IsFar D = λ t. by (far (sym g ∙ t)) in
    (e, inl (bits, wide, other), λ k us n kept holds. k.1 wide)
  where
    by : (D : chains.Chain) × (D.literals ≡ plain_literals lits) × IsFar D → (D : chains.Chain) × (D.literals ≡ plain_literals c.literals.items) × IsFar D
    by (D, d, k) = (D, d ∙ ap plain_literals (sym e), k)

pub far_of : (ls : List Literal) (sides : List Bool) (ps : List Put) → length sides ≡ count_sides ls → IsFarOff (count_variables ls) (first_system ls false sides) ps → IsFar (made ls false sides ps)
far_of ls sides ps l h = far_chain ls sides ps h.values l h.fits h.is h.outside

pub far_for : (lits : List (Lit Compare)) (c : Chain) (sides : List Bool) (ps : List Put) → c.literals.items ≡ lits → map plain_choice c.choices.items ≡ choices_of (plain_literals lits) sides ps → is_bounded c.width ≡ false → bits_of c.width ≡ 64
    → length sides ≡ count_sides (plain_literals lits) → IsFarOff (count_variables (plain_literals lits)) (first_system (plain_literals lits) false sides) ps
    → ((us : List ℤ) → length us ≡ 8 → AllKept us → HoldsAll (plain_literals lits) us → ⊥) → Shows lits c
far_for lits c sides ps e f g bits l h none =
    let is = shown_is lits c false sides ps e f g in
    (e, inr (bits, subst IsFar (sym is) (far_of (plain_literals lits) sides ps l h)), λ k. none)

-- ---- by what the search over sides tells

pub sat_told : (ls : List Literal) (b : Bool) (ss : List Bool) (n : ℕ) (vs : List ℤ) → ss ≡ [] → AreLiteralsOver 8 ls → ((more : List Bool) × (length more ≡ n) × (ps : List Put) × IsSolved (count_variables ls) (first_system ls b (ss ++ more)) ps vs) → (length vs ≡ 8) × HoldsAll ls vs
sat_told ls b ss n vs e over (more, k, ps, s) = sat_for ls b (ss ++ more) ps vs over s

pub wide_told : (ls : List Literal) (b : Bool) (ss : List Bool) (n : ℕ) (s : Stuck) → ss ≡ [] → n ≡ count_sides ls → TellsSides ls b ss n (Wide s) → (length s.sides.items ≡ count_sides ls) × Passes128 (count_variables ls) (first_system ls b s.sides.items) (puts_of s.puts.items)
wide_told ls b ss n s e l (more, k, d, p) =
    (ap length (d ∙ ap (λ x. x ++ more) e) ∙ k ∙ l, subst (λ x. Passes128 (count_variables ls) (first_system ls b x) (puts_of s.puts.items)) (sym d) p)

pub unsat_told : (ls : List Literal) (b : Bool) (ss : List Bool) (n : ℕ) → ss ≡ [] → n ≡ count_sides ls → TellsSides ls b ss n Unsat → (sides : List Bool) → length sides ≡ count_sides ls → IsSolvable (count_variables ls) (first_system ls b sides) → ⊥
unsat_told ls b ss n e l h sides k s = h sides (k ∙ sym l) (subst (λ x. IsSolvable (count_variables ls) (first_system ls b (x ++ sides))) (sym e) s)

pub far_told : (ls : List Literal) (ss : List Bool) (n : ℕ) (s : Stuck) → AreLiteralsOver 8 ls → ¬ (TellsSides ls true ss n (Far s))
far_told ls ss n s over (more, k, d, far) = bounded_inside ls (ss ++ more) (puts_of s.puts.items) far.values over far.is far.outside
