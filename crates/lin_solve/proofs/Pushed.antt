-- The steps by which the first system is built.
use Rattle.std.proofs.Common.{◌≡◌, ℕ, suc, ◌+◌, ◌-◌, ◌^◌, ◌<◌, ◌≤◌, to_z, ◌||◌, ◌==◌, List, [], ◌∷◌, ◌++◌, length, drop, get_or, Bool, true, false, cond, refl, ap, sym, ◌∙◌, subst, arith, append_assoc, add-one}
use Rattle.std.proofs.Math.IntN.{ℤ, pos, negsuc, ◌-ℤ◌}
use Rattle.std.specs.Int.{w128}
use Rattle.std.proofs.lemmas.Int.{ints}
use Rattle.std.specs.List.{All}
use Rattle.std.proofs.lemmas.Bool.{or_right, eq-eqb}
use Rattle.std.proofs.lemmas.List.{at_drop_more, at_drop_all, drop-drop}
use Rattle.std.proofs.lemmas.List.Elements.{All-map}
use Rattle.math_cooper.specs.Line.{AtLeastZero, DividedBy}
use Rattle.math_cooper.specs.System.{Condition}
use Rattle.model_form.specs.Form.{Form, form, constant_of, fields_of, remainders_of}
use Rattle.model_chain.specs.Literals as plain
use Rattle.model_chain.specs.Literals.{over, conditions_of, literal_conditions, literals_conditions, needs_side, own_side, later_sides, remainder_conditions, remainders_conditions, bound_conditions, bounds_conditions, has_field, has_term, has_inner, field_in}
use Rattle.model_chain.specs.Chains.{first_system, least, greatest}
use Rattle.label_core.specs.declared.theory.Lit.{Lit}
use Rattle.lin_form.specs.declared.form.FieldTerm.{FieldTerm}
use Rattle.lin_form.specs.declared.form.RemTerm.{RemTerm}
use Rattle.lin_form.specs.Terms.{plain_fields, plain_remainders}
use Rattle.lin_solve.specs.declared.compare.Relation.{Relation}
use Rattle.lin_solve.specs.declared.compare.Compare.{Compare}
use Rattle.lin_solve.specs.declared.numbering.Remainder.{Remainder}
use Rattle.lin_solve.specs.Plain.{plain_relation, plain_literal, plain_literals, plain_remainder, plain_known, ArePositive, single}

-- what a literal's conditions are, by its relation and sign
pub conditions_at : (R : List plain.Remainder) (l : Lit Compare) (r : Relation) (positive side : Bool) → l.atom.relation ≡ r → l.sign ≡ positive → literal_conditions R (plain_relation r) positive side l.atom.left l.atom.right ≡ conditions_of R (plain_literal l) side
conditions_at R l r positive side e f = λ i. literal_conditions R (plain_relation (sym e i)) (sym f i) side l.atom.left l.atom.right

-- one part more at the end
pub ended : (start whole part rest : List Condition) (now : List Condition) → now ≡ start ++ part → now ++ rest ≡ start ++ (part ++ rest)
ended start whole part rest now e = ap (λ l. l ++ rest) e ∙ append_assoc start part rest

pub carried : (start before own rest now : List Condition) → before ++ (own ++ rest) ≡ start → now ≡ before ++ own → now ++ rest ≡ start
carried start before own rest now e f = ap (λ l. l ++ rest) f ∙ append_assoc before own rest ∙ e

-- ---- literals

pub sides_step : (sides : List Bool) (next : ℕ) (needed : Bool) → cond needed (drop 1 (drop next sides)) (drop next sides) ≡ drop (cond needed (next + 1) next) sides
sides_step sides next true = drop-drop 1 next sides
sides_step sides next false = refl

pub literals_step : (R : List plain.Remainder) (ls : List (Lit Compare)) (k : ℕ) (l : Lit Compare) (sides : List Bool) (next : ℕ) (needed side : Bool) → k < length ls → l ≡ get_or ls k l → needed ≡ needs_side (plain_literal l) → side ≡ cond needed (get_or (drop next sides) 0 true) true
    → literals_conditions R (plain_literals (drop k ls)) (drop next sides) ≡ conditions_of R (plain_literal l) side ++ literals_conditions R (plain_literals (drop (k + 1) ls)) (drop (cond needed (next + 1) next) sides)
literals_step R ls k l sides next needed side h is n s =
    let own : side ≡ own_side (plain_literal l) (drop next sides) = s ∙ ap (λ b. cond b (get_or (drop next sides) 0 true) true) n in
    let later : later_sides (plain_literal l) (drop next sides) ≡ drop (cond needed (next + 1) next) sides = ap (λ b. cond b (drop 1 (drop next sides)) (drop next sides)) (sym n) ∙ sides_step sides next needed in
    at_drop_more (λ us. literals_conditions R (plain_literals us) (drop next sides)) ls k l h
    ∙ ap (λ (x : Lit Compare). literals_conditions R (plain_literal x ∷ plain_literals (drop (k + 1) ls)) (drop next sides)) (sym is)
    ∙ (λ i. conditions_of R (plain_literal l) (sym own i) ++ literals_conditions R (plain_literals (drop (k + 1) ls)) (later i))

pub literals_end : (R : List plain.Remainder) (ls : List (Lit Compare)) (k : ℕ) (sides : List Bool) → length ls ≤ k → literals_conditions R (plain_literals (drop k ls)) sides ≡ []
literals_end R ls k sides h = at_drop_all (λ us. literals_conditions R (plain_literals us) sides) ls k h

-- ---- remainders

pub remainders_step : (R : List plain.Remainder) (rs : List Remainder) (k : ℕ) (r : Remainder) → k < length rs → r ≡ get_or rs k r → remainders_conditions R (8 + k) (plain_known (drop k rs)) ≡ remainder_conditions R (8 + k) (plain_remainder r) ++ remainders_conditions R (8 + (k + 1)) (plain_known (drop (k + 1) rs))
remainders_step R rs k r h is =
    at_drop_more (λ us. remainders_conditions R (8 + k) (plain_known us)) rs k r h
    ∙ ap (λ (x : Remainder). remainder_conditions R (8 + k) (plain_remainder x) ++ remainders_conditions R (suc (8 + k)) (plain_known (drop (k + 1) rs))) (sym is)
    ∙ ap (λ n. remainder_conditions R (8 + k) (plain_remainder r) ++ remainders_conditions R n (plain_known (drop (k + 1) rs))) (omega arith)

pub remainders_end : (R : List plain.Remainder) (rs : List Remainder) (k n : ℕ) → length rs ≤ k → remainders_conditions R n (plain_known (drop k rs)) ≡ []
remainders_end R rs k n h = at_drop_all (λ us. remainders_conditions R n (plain_known us)) rs k h

pub positives : (known : List Remainder) (R : List plain.Remainder) → plain_known known ≡ R → ArePositive known → All (λ r. 0 < r.divisor) R
positives known R e h = subst (All (λ r. 0 < r.divisor)) e (All-map (λ (r : plain.Remainder). 0 < r.divisor) plain_remainder known h)

-- ---- bounds

pub bounds_step : (R : List plain.Remainder) (a b : ℤ) (ls : List plain.Literal) (n : ℕ) → n < 8 → bounds_conditions R a b ls n (8 - n) ≡ cond (field_in n ls) (bound_conditions R a b n) [] ++ bounds_conditions R a b ls (n + 1) (8 - (n + 1))
bounds_step R a b ls n h =
    let e : 8 - n ≡ suc (8 - (n + 1)) = omega arith in
    ap (bounds_conditions R a b ls n) e ∙ ap (λ m. cond (field_in n ls) (bound_conditions R a b n) [] ++ bounds_conditions R a b ls m (8 - (n + 1))) (sym (add-one n))

pub bounds_end : (R : List plain.Remainder) (a b : ℤ) (ls : List plain.Literal) (n : ℕ) → 8 ≤ n → bounds_conditions R a b ls n (8 - n) ≡ []
bounds_end R a b ls n h = let e : 8 - n ≡ 0 = omega arith in ap (bounds_conditions R a b ls n) e

-- ---- a field in a form

term_step : (n : ℕ) (ts : List FieldTerm) (k : ℕ) (d : FieldTerm) → k < length ts → has_term n (plain_fields (drop k ts)) ≡ ((get_or ts k d).field == n) || has_term n (plain_fields (drop (k + 1) ts))
term_step n ts k d h = at_drop_more (λ us. has_term n (plain_fields us)) ts k d h

pub term_found : (n : ℕ) (ts : List FieldTerm) (k : ℕ) (d : FieldTerm) → k < length ts → (get_or ts k d).field ≡ n → has_term n (plain_fields (drop k ts)) ≡ true
term_found n ts k d h e = term_step n ts k d h ∙ ap (λ b. b || has_term n (plain_fields (drop (k + 1) ts))) (eq-eqb (get_or ts k d).field n e)

pub term_other : (n : ℕ) (ts : List FieldTerm) (k : ℕ) (d : FieldTerm) (b : Bool) → k < length ts → ((get_or ts k d).field == n) ≡ false → has_term n (plain_fields (drop k ts)) ≡ b → has_term n (plain_fields (drop (k + 1) ts)) ≡ b
term_other n ts k d b h e f = sym (term_step n ts k d h ∙ ap (λ x. x || has_term n (plain_fields (drop (k + 1) ts))) e) ∙ f

pub terms_end : (n : ℕ) (ts : List FieldTerm) (k : ℕ) → length ts ≤ k → has_term n (plain_fields (drop k ts)) ≡ false
terms_end n ts k h = at_drop_all (λ us. has_term n (plain_fields us)) ts k h

pub inner_step : (n : ℕ) (ts : List RemTerm) (k : ℕ) (t : RemTerm) → k < length ts → t ≡ get_or ts k t → has_inner n (plain_remainders (drop k ts)) ≡ has_field n t.inner || has_inner n (plain_remainders (drop (k + 1) ts))
inner_step n ts k t h is = at_drop_more (λ us. has_inner n (plain_remainders us)) ts k t h ∙ ap (λ (x : RemTerm). has_field n x.inner || has_inner n (plain_remainders (drop (k + 1) ts))) (sym is)

pub inner_end : (n : ℕ) (ts : List RemTerm) (k : ℕ) → length ts ≤ k → has_inner n (plain_remainders (drop k ts)) ≡ false
inner_end n ts k h = at_drop_all (λ us. has_inner n (plain_remainders us)) ts k h

pub field_parts : (n : ℕ) (f : Form) (ts : List FieldTerm) (rs : List RemTerm) → plain_fields ts ≡ fields_of f → plain_remainders rs ≡ remainders_of f → has_field n f ≡ has_term n (plain_fields ts) || has_inner n (plain_remainders rs)
field_parts n (form c us qs) ts rs e d = λ i. has_term n (sym e i) || has_inner n (sym d i)

pub field_by_term : (n : ℕ) (f : Form) (ts : List FieldTerm) → plain_fields ts ≡ fields_of f → has_term n (plain_fields ts) ≡ true → true ≡ has_field n f
field_by_term n (form c us qs) ts e h = sym (ap (λ b. b || has_inner n qs) (ap (has_term n) (sym e) ∙ h))

pub field_by_inner : (n : ℕ) (f : Form) (rs : List RemTerm) → plain_remainders rs ≡ remainders_of f → has_inner n (plain_remainders rs) ≡ true → true ≡ has_field n f
field_by_inner n (form c us qs) rs e h = sym (or_right (has_term n us) (has_inner n qs) (ap (has_inner n) (sym e) ∙ h))

pub field_by_none : (n : ℕ) (f : Form) (ts : List FieldTerm) (rs : List RemTerm) → plain_fields ts ≡ fields_of f → plain_remainders rs ≡ remainders_of f → has_term n (plain_fields ts) ≡ false → has_inner n (plain_remainders rs) ≡ false → false ≡ has_field n f
field_by_none n f ts rs e d h k = sym (field_parts n f ts rs e d ∙ (λ i. h i || k i))

pub in_step : (n : ℕ) (ls : List (Lit Compare)) (k : ℕ) (l : Lit Compare) → k < length ls → l ≡ get_or ls k l → field_in n (plain_literals (drop k ls)) ≡ (has_field n l.atom.left || has_field n l.atom.right) || field_in n (plain_literals (drop (k + 1) ls))
in_step n ls k l h is = at_drop_more (λ us. field_in n (plain_literals us)) ls k l h ∙ ap (λ (x : Lit Compare). (has_field n x.atom.left || has_field n x.atom.right) || field_in n (plain_literals (drop (k + 1) ls))) (sym is)

pub in_end : (n : ℕ) (ls : List (Lit Compare)) (k : ℕ) → length ls ≤ k → field_in n (plain_literals (drop k ls)) ≡ false
in_end n ls k h = at_drop_all (λ us. field_in n (plain_literals us)) ls k h

-- ---- three conditions

abbrev divided : ℕ → ℤ → List ℤ → Condition
divided m c row = record { kind = DividedBy m; constant = c; coefficients = row }

abbrev at_least : ℤ → List ℤ → Condition
at_least c row = record { kind = AtLeastZero; constant = c; coefficients = row }

pub three_pushed : (R : List plain.Remainder) (n : ℕ) (r : plain.Remainder) (out one two three : List Condition) (a b d : Condition) → one ≡ out ++ a ∷ [] → two ≡ one ++ b ∷ [] → three ≡ two ++ d ∷ []
    → a ≡ single R n false (pos 0) → b ≡ single R n true (pos r.divisor -ℤ pos 1) → d ≡ divided r.divisor (constant_of r.inner) (plain.add_at n (negsuc 0) (plain.add_terms R (pos 1) r.inner (plain.zeros R))) → three ≡ out ++ remainder_conditions R n r
three_pushed R n r out one two three a b d e f g p q t =
    g ∙ ap (λ l. l ++ d ∷ []) (f ∙ ap (λ l. l ++ b ∷ []) e ∙ append_assoc out (a ∷ []) (b ∷ [])) ∙ append_assoc out (a ∷ b ∷ []) (d ∷ [])
    ∙ (λ i. out ++ p i ∷ q i ∷ t i ∷ [])

pub least_is : (k j : ℤ) (row : List ℤ) → k ≡ j → at_least k row ≡ at_least j row
least_is k j row e = ap (λ z. at_least z row) e

pub divided_is : (R : List plain.Remainder) (k m : ℕ) (n : ℕ) (f : Form) (c : ℤ) (row : List ℤ) → m ≡ k → c ≡ constant_of f → row ≡ plain.add_at n (negsuc 0) (plain.add_terms R (pos 1) f (plain.zeros R)) → divided m c row ≡ divided k (constant_of f) (plain.add_at n (negsuc 0) (plain.add_terms R (pos 1) f (plain.zeros R)))
divided_is R k m n f c row e d h = λ i. divided (e i) (d i) (h i)

-- ---- the whole

pub system_pushed : (ls : List plain.Literal) (sides : List Bool) (bounded : Bool) (R S T : List plain.Remainder) (none one two three : List Condition) → R ≡ plain.remainders_in ls → S ≡ plain.remainders_in ls → T ≡ plain.remainders_in ls → none ≡ [] → one ≡ none ++ literals_conditions R ls sides → two ≡ one ++ remainders_conditions S 8 S → three ≡ two ++ cond bounded (bounds_conditions T least greatest ls 0 8) [] → three ≡ first_system ls bounded sides
system_pushed ls sides bounded R S T none one two three r s t e f g h =
    let Q = plain.remainders_in ls in
    let second : two ≡ literals_conditions Q ls sides ++ remainders_conditions Q 8 Q = g ∙ (λ i. (f ∙ ap (λ l. l ++ literals_conditions R ls sides) e ∙ ap (λ x. literals_conditions x ls sides) r) i ++ remainders_conditions (s i) 8 (s i)) in
    h ∙ (λ i. second i ++ cond bounded (bounds_conditions (t i) least greatest ls 0 8) [])

pub to_z-small : (n : ℕ) → n < 2 ^ 32 → to_z w128 n ≡ pos n
to_z-small n h = omega (arith, ints)
