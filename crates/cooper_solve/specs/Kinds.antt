-- What a relation of the code stands for.
use Rattle.std.specs.Prelude.{pos, ◌<ℤ◌, unsigned_abs}
use Rattle.math_cooper.specs.Line.{Kind, AtLeastZero, DividedBy}
use Rattle.cooper_solve.specs.declared.constraint.Relation.{Relation}
use Rattle.cooper_solve.specs.declared.constraint.Relation.TheVariants.{AtLeast, Divided}

abbrev pub kind_of : Relation → Kind
kind_of AtLeast = AtLeastZero
kind_of (Divided m) = DividedBy (unsigned_abs m)

abbrev pub IsPositiveRelation : Relation → Type 0
IsPositiveRelation AtLeast = Unit {0}
IsPositiveRelation (Divided m) = pos 0 <ℤ m
