-- What rules and terms give, one after another.
use Rattle.std.proofs.Common.{◌≡◌, ℕ, List, [], ◌∷◌, ◌++◌, map, All, Contains, subst, sym, ap, ◌∙◌, append_assoc, append-nil}
use Rattle.std.specs.List.{flat_map}
use Rattle.fast_syntax.specs.declared.items.Out as code
use Rattle.fast_syntax.specs.Plain.{plain_out}
use Rattle.fast_syntax.specs.Slices.{plain_outputs}
use Rattle.model_grammar.specs.Syntax.{TransItem}
use Rattle.fast_build.specs.Reached.{IsGrown}
use Rattle.fast_build.specs.Called.{called_by, called_by_all, looked_in, AreLooked}

pub flat_more : {X Z Y : Type 0} (p : X → Z) (f : Z → List Y) (xs : List X) (x : X) → flat_map f (map p (xs ++ x ∷ [])) ≡ flat_map f (map p xs) ++ f (p x)
flat_more p f [] x = append-nil (f (p x))
flat_more p f (y ∷ xs) x = ap (λ z. f (p y) ++ z) (flat_more p f xs x) ∙ sym (append_assoc (f (p y)) (flat_map f (map p xs)) (f (p x)))

pub called_more : (outs : List code.Out) (out : code.Out) → called_by_all (plain_outputs (outs ++ out ∷ [])) ≡ called_by_all (plain_outputs outs) ++ called_by (plain_out out)
called_more [] out = append-nil (called_by (plain_out out))
called_more (o ∷ outs) out = ap (λ z. called_by (plain_out o) ++ z) (called_more outs out) ∙ sym (append_assoc (called_by (plain_out o)) (called_by_all (plain_outputs outs)) (called_by (plain_out out)))

pub looked_from_none : (ts : List TransItem) (names : List (List ℕ)) → IsGrown [] names (flat_map (λ t. looked_in t.rules) ts) → AreLooked ts names
looked_from_none ts names g = record { all = g.all; only = subst (All (Contains (flat_map (λ t. looked_in t.rules) ts))) (sym g.is) g.of_more }
