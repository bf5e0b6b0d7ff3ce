-- What the search tells: a solution, one that is far off, puts that lead to a number that is too wide, or that there is none.
use Rattle.std.specs.Prelude.{ℕ, ℤ, pos, ◌*ℤ◌, ◌<ℤ◌, ◌≡◌, ◌<◌, ◌+◌, ◌⊎◌, List, [], ◌∷◌, ◌++◌, map, reverse, take, unsigned_abs}
use Rattle.std.specs.List.{All, Contains}
use Rattle.model_chain.specs.Chains.{HasFarValue}
use Rattle.math_cooper.specs.System.{Condition, Affine, affine_value, put_all, unit_all, divides_condition, IsSolvable}
use Rattle.math_cooper.specs.Puts as plain
use Rattle.math_cooper.specs.Puts.{IsScale, IsPeriod, OfScale, IsPeriodOf, OfAffine, IsNumber, IsWide, AllFit, Passes128, IsSolution}
use Rattle.cooper_solve.specs.declared.constraint.Direction.{Direction}
use Rattle.cooper_solve.specs.declared.found.Put.{Put}
use Rattle.cooper_solve.specs.declared.found.Found.{Found}
use Rattle.cooper_solve.specs.declared.found.Found.TheVariants.{Solved, Far, Wide, Unsat}
use Rattle.cooper_solve.specs.Views.{IsSystem, IsUnitLead, AreBases, base_form, WideInForm}

abbrev pub put_of : Put → plain.Put
put_of p = record { variable = p.variable; bound = p.bound; offset = unsigned_abs p.offset }

-- the first put stands last
abbrev pub puts_of : List Put → List plain.Put
puts_of ps = reverse (map put_of ps)

-- the puts lead to a solution, whose first eight values are these, and no number of theirs is too wide
pub record IsSolved (n : ℕ) (S : List Condition) (ps : List plain.Put) (us : List ℤ) : Type 0 where
  pub values : List ℤ
  pub is : IsSolution n S ps values
  pub shown : us ≡ take 8 values
  pub fits : AllFit (IsNumber n S ps)

-- the puts lead to a solution that is outside, and no number of theirs is too wide
pub record IsFarOff (n : ℕ) (S : List Condition) (ps : List plain.Put) : Type 0 where
  pub values : List ℤ
  pub is : IsSolution n S ps values
  pub outside : HasFarValue values
  pub fits : AllFit (IsNumber n S ps)

abbrev pub Tells : ℕ → List Condition → Found → Type 0
Tells n S (Solved s) = IsSolved n S (puts_of s.puts.items) s.values.items
Tells n S (Far ps) = IsFarOff n S (puts_of ps.items)
Tells n S (Wide ps) = Passes128 n S (puts_of ps.items)
Tells n S Unsat = IsSolvable n S → ⊥

-- ---- after a put of g for c times variable i, which leaves T

pub record SolvedAfter (i c : ℕ) (g : Affine) (T : List Condition) (qs : List plain.Put) (us : List ℤ) : Type 0 where
  pub values : List ℤ
  pub own : ℤ
  pub is : IsSolution i T qs values
  pub back : affine_value g values ≡ pos c *ℤ own
  pub shown : us ≡ take 8 (values ++ own ∷ [])
  pub form_fits : AllFit (OfAffine g)
  pub fits : AllFit (IsNumber i T qs)

pub record FarAfter (i c : ℕ) (g : Affine) (T : List Condition) (qs : List plain.Put) : Type 0 where
  pub values : List ℤ
  pub own : ℤ
  pub is : IsSolution i T qs values
  pub back : affine_value g values ≡ pos c *ℤ own
  pub outside : HasFarValue (values ++ own ∷ [])
  pub form_fits : AllFit (OfAffine g)
  pub fits : AllFit (IsNumber i T qs)

abbrev pub TellsAfter : ℕ → ℕ → Affine → List Condition → plain.Put → Found → Type 0
TellsAfter i c g T p (Solved s) = (qs : List plain.Put) × (puts_of s.puts.items ≡ p ∷ qs) × SolvedAfter i c g T qs s.values.items
TellsAfter i c g T p (Far ps) = (qs : List plain.Put) × (puts_of ps.items ≡ p ∷ qs) × FarAfter i c g T qs
TellsAfter i c g T p (Wide ps) = (qs : List plain.Put) × (puts_of ps.items ≡ p ∷ qs) × (((WideInForm g) × (qs ≡ [])) ⊎ Passes128 i T qs)
TellsAfter i c g T p Unsat = IsSolvable i T → ⊥

-- ---- from one bound

abbrev pub AtOffset : ℕ → ℕ → ℕ → Direction → List Condition → ℕ → Found → Type 0
AtOffset i c D d R k f = (j : ℕ) × (j < D) × TellsAfter i c (base_form d i R k j) (put_all i (base_form d i R k j) R) (record { variable = i; bound = k; offset = j }) f

-- at no offset below m
abbrev pub NoneBelow : ℕ → Direction → List Condition → ℕ → ℤ → Type 0
NoneBelow i d R k m = (j : ℕ) → pos j <ℤ m → IsSolvable i (put_all i (base_form d i R k j) R) → ⊥

abbrev pub TellsFrom : ℕ → ℕ → ℕ → Direction → List Condition → ℕ → Found → Type 0
TellsFrom i c D d R k (Solved s) = AtOffset i c D d R k (Solved s)
TellsFrom i c D d R k (Far ps) = AtOffset i c D d R k (Far ps)
TellsFrom i c D d R k (Wide ps) = AtOffset i c D d R k (Wide ps)
TellsFrom i c D d R k Unsat = NoneBelow i d R k (pos D)

-- from one of these bounds, or from none
abbrev pub TellsOver : ℕ → ℕ → ℕ → Direction → List Condition → List ℕ → Found → Type 0
TellsOver i c D d R L (Solved s) = (k : ℕ) × Contains L k × AtOffset i c D d R k (Solved s)
TellsOver i c D d R L (Far ps) = (k : ℕ) × Contains L k × AtOffset i c D d R k (Far ps)
TellsOver i c D d R L (Wide ps) = (k : ℕ) × Contains L k × AtOffset i c D d R k (Wide ps)
TellsOver i c D d R L Unsat = All (λ k. NoneBelow i d R k (pos D)) L

-- a solution or puts, and not that there is none
abbrev pub IsFound : Found → Type 0
IsFound (Solved s) = Unit {0}
IsFound (Far ps) = Unit {0}
IsFound (Wide ps) = Unit {0}
IsFound Unsat = ⊥

-- ---- a step

-- c, a number of the system with x', or D is too wide
abbrev pub WideBefore : ℕ → List Condition → Type 0
WideBefore i S = (c : ℕ) × IsScale i S c × ((z : ℤ) × (OfScale i S c z ⊎ IsPeriodOf i S c z) × IsWide z)

-- R is a system with x' for c times variable i
pub record IsStep (i : ℕ) (c D : ℤ) (R : List Condition) (d : Direction) (L : List ℕ) : Type 0 where
  pub system : IsSystem (i + 1) R
  pub unit : All (IsUnitLead i) R
  pub scale : pos 0 <ℤ c
  pub divides : Contains R (divides_condition i (unsigned_abs c))
  pub period : pos 0 <ℤ D
  pub bases : AreBases i R d L

-- and it is that of S
pub record IsStepOf (i : ℕ) (S : List Condition) (c D : ℤ) (R : List Condition) (d : Direction) (L : List ℕ) : Type 0 where
  pub is_scale : IsScale i S (unsigned_abs c)
  pub scaled : R ≡ unit_all i (unsigned_abs c) S
  pub is_period : IsPeriod i R (unsigned_abs D)
  pub step : IsStep i c D R d L
