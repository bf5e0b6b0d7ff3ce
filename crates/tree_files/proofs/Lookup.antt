-- What is looked up by its number.
use Rattle.std.proofs.Common.{◌≡◌, ℕ, ◌<◌, ◌≤◌, List, length, map, get_or, Some, None, refl, sym, ap, ◌∙◌}
use Rattle.std.specs.Prelude.{slice_get}
use Rattle.std.specs.Option.{option_map}
use Rattle.std.proofs.lemmas.List.{get_or-map, length-map}
use Rattle.std.proofs.lemmas.Option.{slice_get-map, slice_get_read, slice_get_past}
use Rattle.model_tree.specs.Signature.{PlainConstructor}
use Rattle.fast_tree.specs.declared.signature.CtorOf.{CtorOf}
use Rattle.fast_tree.specs.Signatures.{plain_constructor}

pub there_by : {A B : Type 0} (f : A → B) (xs : List A) (i : ℕ) (x : A) → i < length xs → x ≡ get_or xs i x → Some (f x) ≡ slice_get (map f xs) i
there_by f xs i x low is = sym (slice_get-map f xs i ∙ ap (option_map f) (slice_get_read xs (length xs) i x refl low is))

pub past_by : {A B : Type 0} (f : A → B) (xs : List A) (i : ℕ) → length xs ≤ i → None ≡ slice_get (map f xs) i
past_by f xs i end = sym (slice_get-map f xs i ∙ ap (option_map f) (slice_get_past xs i end))

pub rank_there : (cs : List CtorOf) (i : ℕ) (c : CtorOf) → i < length cs → c ≡ get_or cs i c → c.rank ≡ get_or (map (λ (k : PlainConstructor). k.rank) (map plain_constructor cs)) i 0
rank_there cs i c low is =
    ap (λ (k : CtorOf). k.rank) is ∙ sym (get_or-map (λ (k : PlainConstructor). k.rank) (map plain_constructor cs) i (plain_constructor c) 0 (rw length-map low) ∙ ap (λ (k : PlainConstructor). k.rank) (get_or-map plain_constructor cs i c (plain_constructor c) low))
