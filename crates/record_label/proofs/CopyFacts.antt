-- A copy of a map is equal to it.
use Rattle.std.proofs.Common.{◌≡◌, ◌&&◌, ℕ, ◌+◌, ◌<◌, ◌≤◌, ◌++◌, get_or, sym, List, [], ◌∷◌, map, take, length, Bool, true, refl, ap, ◌∙◌, subst, Result, Ok, Err, IfOk}
use Rattle.std.proofs.lemmas.List.{take_all, take_more}
use Rattle.std.specs.Cmp.Lexicographic.{pointwise}
use Rattle.label_core.specs.Formula.{plain_formula}
use Rattle.label_core.specs.declared.formula.Formula.{Formula}
use Rattle.label_core.specs.SameFormula.{same_formula}
use Rattle.record_label.specs.declared.maps.RowEntry.{RowEntry}
use Rattle.record_label.specs.declared.maps.RowEntry.TheVariants.{Number, Truth, Text}
use Rattle.record_label.specs.contracts.maps.RowEntryPartialEq.TheImpl.{eq-value}
use Rattle.record_label.specs.contracts.maps.RowEntryEq.TheImpl.Laws.{laws-law}
use Rattle.record_label.specs.Rows.{RowAtom}
use Rattle.record_label.specs.PlainMaps.{plain_entry}
use Rattle.record_label.specs.Written.{plain_written}
use Rattle.record_label.specs.declared.written.Mark.{Mark}
use Rattle.record_label.specs.declared.written.Written.{Written}
use Rattle.record_label.specs.contracts.written.MarkPartialEq.TheImpl as mark
use Rattle.record_label.specs.contracts.written.WrittenPartialEq.TheImpl as written
use Rattle.record_label.specs.contracts.written.WrittenEq.TheImpl.Laws as laws

by_plain : (A : RowAtom → RowAtom → Bool) (f g : Formula RowAtom) → plain_formula f ≡ plain_formula g → same_formula A (plain_formula f) (plain_formula f) ≡ true → same_formula A (plain_formula f) (plain_formula g) ≡ true
by_plain A f g one h = subst (λ p. same_formula A (plain_formula f) p ≡ true) one h

truths : (f g : Formula RowAtom) → plain_formula f ≡ plain_formula g → eq-value.it (Truth f) (Truth g) ≡ true
truths f g one = by_plain _ f g one (laws-law.refl (Truth f))

-- entries with one meaning
pub same_entry : (x y : RowEntry) → plain_entry x ≡ plain_entry y → eq-value.it x y ≡ true
same_entry (Number f) (Number g) e = let one : f ≡ g = cc in subst (λ h. eq-value.it (Number f) (Number h) ≡ true) one (laws-law.refl (Number f))
same_entry (Number f) (Truth g) e = absurd cc
same_entry (Number f) (Text t) e = absurd cc
same_entry (Truth f) (Number g) e = absurd cc
same_entry (Truth f) (Truth g) e = let one : plain_formula f ≡ plain_formula g = cc in truths f g one
same_entry (Truth f) (Text t) e = absurd cc
same_entry (Text s) (Number g) e = absurd cc
same_entry (Text s) (Truth g) e = absurd cc
same_entry (Text s) (Text t) e = let one : s ≡ t = cc in subst (λ u. eq-value.it (Text s) (Text u) ≡ true) one (laws-law.refl (Text s))

pub same_entries : (xs ys : List RowEntry) → map plain_entry xs ≡ map plain_entry ys → pointwise eq-value.it xs ys ≡ true
same_entries [] [] e = refl
same_entries [] (y ∷ ys) e = absurd cc
same_entries (x ∷ xs) [] e = absurd cc
same_entries (x ∷ xs) (y ∷ ys) e =
    let first : plain_entry x ≡ plain_entry y = cc in
    let rest : map plain_entry xs ≡ map plain_entry ys = cc in λ i. same_entry x y first i && same_entries xs ys rest i

-- what is written, piece by piece
pub same_written : (xs ys : List Written) → map plain_written xs ≡ map plain_written ys → pointwise written.eq-value.it xs ys ≡ true
same_written [] [] e = refl
same_written [] (y ∷ ys) e = absurd cc
same_written (x ∷ xs) [] e = absurd cc
same_written (x ∷ xs) (y ∷ ys) e =
    let first : x.marks.items ≡ y.marks.items = cc in
    let rest : map plain_written xs ≡ map plain_written ys = cc in
    let own : written.eq-value.it x y ≡ true = subst (λ (ms : List Mark). pointwise mark.eq-value.it x.marks.items ms ≡ true) first (laws.laws-law.refl x) in λ i. own i && same_written xs ys rest i

pub if_both : {T E : Type 0} (r : Result T E) (P R Q : T → Type 0) → ((x : T) → P x → R x → Q x) → IfOk r P → IfOk r R → IfOk r Q
if_both (Ok x) P R Q f h k = f x h k
if_both (Err e) P R Q f h k = h

-- what is made of things one by one, once it is made of all
pub all_made : {X Y A : Type 0} (f : X → A) (g : Y → A) (xs : List X) (made : List Y) (i : ℕ) → map g made ≡ map f (take i xs) → length xs ≤ i → map g made ≡ map f xs
all_made f g xs made i before low = before ∙ ap (map f) (take_all i xs low)

-- of one that was made
pub given_made : {A E : Type 0} (r : Result A E) (P : A → Type 0) (x : A) → r ≡ Ok x → IfOk r P → P x
given_made r P x is h = subst (λ s. IfOk s P) is h

-- one more that is the same
pub same_more : {A : Type 0} (xs : List A) (i : ℕ) (x : A) → i < length xs → x ≡ get_or xs i x → (made now : List A) (y : A) → now ≡ made ++ y ∷ [] → made ≡ take i xs → y ≡ x → now ≡ take (i + 1) xs
same_more xs i x low is made now y pushed before same = pushed ∙ (λ j. before j ++ (same ∙ is) j ∷ []) ∙ sym (take_more xs i x low)
