use Rattle.std.proofs.Common.{◌≡◌, inr, ℕ, List, Some, None}
use Rattle.fast_eval.proofs.scopes.ends_of.Goals as goal

some_same : (s t : List ℕ) → Some s ≡ Some t → s ≡ t
some_same s t e = cc

pub unreachable-requires : goal.unreachable-requires
unreachable-requires c =
    let (from, into, made) = c.requires.made in
    let no : None ≡ Some from = c.in_default.ensures from (inr (into, made)) in absurd (cc)

pub unreachable-requires-in_default-output_of : goal.unreachable-requires-in_default-output_of
unreachable-requires-in_default-output_of c =
    let (from, into, made) = c.requires.made in
    let no : None ≡ Some into = c.in_default-output_of.ensures.outputs from into made in absurd (cc)

pub returns : goal.returns
returns c = λ from into made. record {
  input = some_same c.in-Some.from.now from (c.in-Some.ensures from (inr (into, made)));
  output = some_same c.in-Some-output_of.into.now into (c.in-Some-output_of.ensures.outputs from into made);
}
