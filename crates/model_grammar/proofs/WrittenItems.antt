-- Items are written.
use Rattle.std.proofs.Common.{◌≡◌, ℕ, ℤ, pos, ◌^◌, ◌<◌, Bool, true, false, List, [], ◌∷◌, ◌++◌, map, refl, sym, ap, ◌∙◌, subst, append_assoc, Option, Some, None, inl, inr, if◌then◌else◌}
use Rattle.std.specs.Prelude.{codes}
use Rattle.std.specs.Str.{bytes_eq}
use Rattle.std.specs.Str.Parse.{digits_value}
use Rattle.std.specs.Fmt.{decimal}
use Rattle.fast_fault.specs.declared.place.Pos.{Pos}
use Rattle.model_program.specs.declared.Word.{Word}
use Rattle.model_program.specs.declared.Word.TheVariants.{TypeWord, Tree, Lang, Trans, Def, Where, Given, To, In, IsEmpty, TypeCheck, Id, Number, RoundOpen, RoundClose, SquareOpen, SquareClose, CurlyOpen, CurlyClose, Bar, Colon, Assign, Arrow, Same}
use Rattle.model_program.specs.Lexeme.{Lexeme}
use Rattle.model_program.specs.Spellings.{spelled, keywords}
use Rattle.model_program.specs.Syntax.{Name, FieldItem, CtorItem, TypeItem, Demand}
use Rattle.model_program.specs.Pieces.{Digits}
use Rattle.model_program.specs.Cuts.{Piece, texts_of}
use Rattle.model_program.specs.Joined.{◌⌢◌, ◌⊗◌}
use Rattle.model_program.specs.Grammar.{IsSign, IsAt, IsName, IsNumber, IsComma, Items, Any, Many, AreVars, IsGiven, IsDemand, IsCtor, IsSort, IsField, sort_text, AreFieldsOrNone, AreCtors, IsTypeItem, assert_word}
use Rattle.model_program.specs.TokenTexts.{IsTextOf, HaveTexts}
use Rattle.model_grammar.specs.Syntax.{Expr, Rule, OutRule, TreeItem, LangItem, TransItem, DefItem, Claim, equal, member, empty, type_check, Body, sorts, tree, lang, trans, def, assertion, Item}
use Rattle.model_grammar.specs.Places.{nowhere, bare_name, bare_field, bare_ctor, bare_type, bare_demand, bare_guard, bare_rule, bare_out_rule, bare_into, bare_tree, bare_lang, bare_trans, bare_def, bare_claim, bare_item, bare_items}
use Rattle.model_grammar.specs.Terms.{IsX, IsOut}
use Rattle.model_grammar.specs.Expressions.{IsE}
use Rattle.model_grammar.specs.Grammar.{IsGuard, IsRule, IsOutRule, InBraces, IsTreeItem, IsLangItem, IsTransItem, IsInto, IsDefItem, IsB, IsA, IsBody, IsItem, IsProgram}
use Rattle.model_grammar.specs.Printed.{blank, line_end, token, name, whole, bracketed, with_commas, in_braces, rules_of, term, demand, guarded, demands, rule, out_rule, field_of, ctor_of, type_item, tree_item, lang_item, trans_item, into_of, def_item, claim, item, lines}
use Rattle.model_grammar.proofs.Laid.{IsParted}
use Rattle.model_grammar.proofs.Standing.{digits_longest, blank_longest}
use Rattle.model_grammar.proofs.Written.{Written, AllWritten, Touches, both, joined, spaced, apart, as_written, nothing_written}
use Rattle.model_grammar.proofs.Tokens.{alike, sign_written, at_written, square_written, round_written, name_written, token_at, token_written, IsSpelled}
use Rattle.model_grammar.proofs.Constants.{digits_small, decimal_digits, decimal_value, digit_characters}
use Rattle.model_grammar.proofs.WrittenExpressions.{texts_front, texts_back, expression_written}
use Rattle.model_grammar.proofs.WrittenLists.{flattened, second_as, items_commas, any_commas, items_bars, many_blanks, blanks_touch, all_many, all_items, all_any}
use Rattle.model_grammar.proofs.WrittenTerms.{names_written, term_written, output_written}

-- the texts of the parts of joined tokens
pub front_texts : {p q : List Lexeme → Type 0} {ts : List Lexeme} → (s : (p ⌢ q) ts) → HaveTexts ts → HaveTexts s.front
front_texts s have = texts_front s.front s.back (subst HaveTexts s.split have)

pub back_texts : {p q : List Lexeme → Type 0} {ts : List Lexeme} → (s : (p ⌢ q) ts) → HaveTexts ts → HaveTexts s.back
back_texts s have = texts_back s.front s.back (subst HaveTexts s.split have)

-- `(`, a form and `)`
pub parens_written : {A C : Type 0} {f : A → C} {p : A → List Lexeme → Type 0} {a : A} {ps : List Piece} → Written IsParted f p a ps
    → Written IsParted (both alike (both f alike)) (IsSign RoundOpen ⊗ (p ⊗ IsSign RoundClose)) (tt, (a, tt)) (bracketed ps)
parens_written written = joined (λ after fine. tt) round_written (joined (λ after fine. refl) written (sign_written RoundClose tt))

-- `{`, a form and `}`
pub braces_written : {A C : Type 0} {f : A → C} {p : A → List Lexeme → Type 0} {a : A} {ps : List Piece} → Written IsParted f p a ps
    → Written IsParted (both alike (both f alike)) (IsSign CurlyOpen ⊗ (p ⊗ IsSign CurlyClose)) (tt, (a, tt)) (in_braces ps)
braces_written written = apart (sign_written CurlyOpen tt) (apart written (sign_written CurlyClose tt))

demand_written : (d : Demand) (ts : List Lexeme) → IsDemand d ts → HaveTexts ts → Written IsParted bare_demand IsDemand d (demand d)
demand_written d ts is have =
    let inside = is.at_back in let behind = inside.at_back in
    let texts = back_texts is have in let later = back_texts inside texts in
    as_written {p = IsSign RoundOpen ⊗ (IsName ⊗ (IsName ⊗ IsSign RoundClose))} (λ v. record { language = v.1.0; child = v.1.1.0 }) (λ v us s. s) (λ v same i. record { language = (same i).1.0; child = (same i).1.1.0 })
    (joined (λ after fine. tt) round_written (apart (names_written d.language inside.front inside.at_front (front_texts inside texts)) (joined (λ after fine. refl) (names_written d.child behind.front behind.at_front (front_texts behind later)) (sign_written RoundClose tt))))

vars_written : (vars : List Name) (ts : List Lexeme) → AreVars vars ts → HaveTexts ts → Written IsParted (map bare_name) AreVars vars (bracketed (with_commas name vars))
vars_written vars ts is have =
    let inside = is.at_back in
    let each = all_any bare_name IsName name names_written IsComma vars inside.front inside.at_front (front_texts inside (back_texts is have)) in
    as_written {p = IsSign RoundOpen ⊗ (Any IsComma IsName ⊗ IsSign RoundClose)} (λ v. v.1.0) (λ v us s. s) (λ v same i. (same i).1.0)
    (parens_written (any_commas bare_name IsName name vars each))

guard_written : (guard : Option Expr) (ts : List Lexeme) → IsGuard guard ts → HaveTexts ts → Written IsParted bare_guard IsGuard guard (guarded guard)
guard_written None ts is have = nothing_written None refl
guard_written (Some e) ts is have =
    as_written {p = IsSign Where ⊗ IsE} (λ v. Some v.1) (λ v us s. s) (λ v same i. Some (same i).1)
    (spaced (apart (sign_written Where tt) (expression_written e is.back is.at_back (back_texts is have))))

given_written : (given : List Demand) (ts : List Lexeme) → IsGiven given ts → HaveTexts ts → Written IsParted (map bare_demand) IsGiven given (demands given)
given_written [] ts is have = nothing_written [] refl
given_written (d ∷ ds) ts is have =
    let each = all_many bare_demand IsDemand demand demand_written (d ∷ ds) is.back is.at_back (back_texts is have) in
    as_written {p = IsSign Given ⊗ (IsDemand ⊗ Many IsDemand)} (λ v. v.1.0 ∷ v.1.1) (λ v us s. s) (λ v same i. (same i).1.0 ∷ (same i).1.1)
    (spaced (apart (sign_written Given tt) (joined (blanks_touch demand ds) each.0 (many_blanks bare_demand IsDemand demand ds each.1))))

guard_touch : (guard : Option Expr) (ps : List Piece) → Touches IsParted ps IsParted → Touches IsParted (guarded guard ++ ps) IsParted
guard_touch None ps touch = touch
guard_touch (Some e) ps touch = λ after fine. refl

demands_touch : (given : List Demand) → Touches IsParted (demands given) IsParted
demands_touch [] after parted = parted
demands_touch (d ∷ ds) after parted = refl

rule_written : (r : Rule) (ts : List Lexeme) → IsRule r ts → HaveTexts ts → Written IsParted bare_rule IsRule r (rule r)
rule_written r ts is have =
    let s1 = is.at_back in let s2 = s1.at_back in
    let t1 = back_texts is have in let t2 = back_texts s1 t1 in
    as_written {p = IsName ⊗ (AreVars ⊗ (IsGuard ⊗ IsGiven))} (λ v. record { ctor = v.0; vars = v.1.0; guard = v.1.1.0; given = v.1.1.1 }) (λ v us s. s) (λ v same i. record { ctor = (same i).0; vars = (same i).1.0; guard = (same i).1.1.0; given = (same i).1.1.1 })
    (joined (λ after fine. refl) (names_written r.ctor is.front is.at_front (front_texts is have))
    (joined (guard_touch r.guard (demands r.given) (demands_touch r.given)) (vars_written r.vars s1.front s1.at_front (front_texts s1 t1))
    (joined (demands_touch r.given) (guard_written r.guard s2.front s2.at_front (front_texts s2 t2)) (given_written r.given s2.back s2.at_back (back_texts s2 t2)))))

out_rule_written : (r : OutRule) (ts : List Lexeme) → IsOutRule r ts → HaveTexts ts → Written IsParted bare_out_rule IsOutRule r (out_rule r)
out_rule_written r ts is have =
    let s1 = is.at_back in let t1 = back_texts is have in
    as_written {p = IsRule ⊗ (IsSign To ⊗ IsOut)} (λ v. record { rule = v.0; out = v.1.1 }) (λ v us s. s) (λ v same i. record { rule = (same i).0; out = (same i).1.1 })
    (apart (rule_written r.rule is.front is.at_front (front_texts is have)) (apart (sign_written To tt) (output_written r.out s1.back s1.at_back (back_texts s1 t1))))

-- rules in braces
rules_written : {A C : Type 0} (f : A → C) (p : A → List Lexeme → Type 0) (printed : A → List Piece) (one : (a : A) (ts : List Lexeme) → p a ts → HaveTexts ts → Written IsParted f p a (printed a)) (rules : List A) (ts : List Lexeme) → InBraces p rules ts → HaveTexts ts → Written IsParted (map f) (InBraces p) rules (rules_of printed rules)
rules_written f p printed one [] ts is have = absurd is.at_back.at_front
rules_written f p printed one (r ∷ rules) ts is have =
    let inside = is.at_back in
    let each = all_items f p printed one (IsSign Bar) (r ∷ rules) inside.front inside.at_front (front_texts inside (back_texts is have)) in
    as_written {p = IsSign CurlyOpen ⊗ (Items (IsSign Bar) p ⊗ IsSign CurlyClose)} (λ v. v.1.0) (λ v us s. s) (λ v same i. (same i).1.0)
    (braces_written (items_bars f p printed r rules each))

-- a number that a token writes
number_known : (n : ℤ) (ts : List Lexeme) → IsNumber n ts → (m : ℕ) × (m < 10 ^ 38) × (n ≡ pos m)
number_known n ts is = (digits_value 10 is.0.text, digits_small is.0.text is.2, is.3)

rank_small : (m : ℕ) → m < 10 ^ 38 → Written IsParted (λ (z : ℤ). z) IsNumber (pos m) (whole (pos m))
rank_small m small =
    let is = decimal_digits m small in
    token_written (λ (z : ℤ). z) IsNumber (pos m) Number Digits (decimal m) refl
    (λ before. record { value = pos (digits_value 10 (decimal m)); spelled = (token_at Number before (decimal m), (refl, refl), is, refl); same = ap (λ n. pos n) (decimal_value m small) })
    (λ after parted. digits_longest (decimal m) after (digit_characters (decimal m) is.0.1) is.0.0 is.1 parted)

rank_written : (n : ℤ) (ts : List Lexeme) → IsNumber n ts → Written IsParted (λ (z : ℤ). z) IsNumber n (whole n)
rank_written n ts is = let known = number_known n ts is in subst (λ (z : ℤ). Written IsParted (λ (y : ℤ). y) IsNumber z (whole z)) (sym known.2) (rank_small known.0 known.1)

ctor_written : (c : CtorItem) (ts : List Lexeme) → IsCtor c ts → HaveTexts ts → Written IsParted bare_ctor IsCtor c (ctor_of c)
ctor_written c ts is have =
    let s1 = is.at_back in let s2 = s1.at_back in
    as_written {p = IsName ⊗ (IsSign RoundOpen ⊗ (IsNumber ⊗ IsSign RoundClose))} (λ v. record { name = v.0; rank = v.1.1.0 }) (λ v us s. s) (λ v same i. record { name = (same i).0; rank = (same i).1.1.0 })
    (joined (λ after fine. refl) (names_written c.name is.front is.at_front (front_texts is have)) (parens_written (rank_written c.rank s2.front s2.at_front)))

-- The name of a sort is one that stays as it is.
pub record IsSortName (text : List ℕ) : Type 0 where
  pub is_name : IsTextOf Id text
  pub stays : sort_text text ≡ text

sort_known : (text : List ℕ) → IsTextOf Id text → IsSortName (sort_text text)
unfolding spelled keywords
sort_known text is = first (bytes_eq text (codes "int")) refl
  where
    third : bytes_eq text (codes "int") ≡ false → bytes_eq text (codes "bool") ≡ false → (b : Bool) → bytes_eq text (codes "string") ≡ b → IsSortName (if b then codes "String" else text)
    third one two true e = record { is_name = ((refl, (refl, (refl, (refl, (refl, (refl, tt)))))), refl); stays = refl }
    third one two false e = record { is_name = is; stays = λ i. if one i then codes "Int" else (if two i then codes "Bool" else (if e i then codes "String" else text)) }

    second : bytes_eq text (codes "int") ≡ false → (b : Bool) → bytes_eq text (codes "bool") ≡ b → IsSortName (if b then codes "Bool" else (if bytes_eq text (codes "string") then codes "String" else text))
    second one true e = record { is_name = ((refl, (refl, (refl, (refl, tt)))), refl); stays = refl }
    second one false e = third one e (bytes_eq text (codes "string")) refl

    first : (b : Bool) → bytes_eq text (codes "int") ≡ b → IsSortName (if b then codes "Int" else (if bytes_eq text (codes "bool") then codes "Bool" else (if bytes_eq text (codes "string") then codes "String" else text)))
    first true e = record { is_name = ((refl, (refl, (refl, tt))), refl); stays = refl }
    first false e = second e (bytes_eq text (codes "bool")) refl

pub sorted_name : (s : Name) (ts : List Lexeme) → IsSort s ts → HaveTexts ts → IsSortName s.text
sorted_name s ts is have =
    let text : IsTextOf Id is.0.text = subst (λ (w : Word). IsTextOf w is.0.text) is.1.1 (subst HaveTexts is.1.0 have).0 in
    subst (λ (n : Name). IsSortName n.text) (sym is.2) (sort_known is.0.text text)

sort_written : (s : Name) (ts : List Lexeme) → IsSort s ts → HaveTexts ts → Written IsParted bare_name IsSort s (name s)
sort_written s ts is have =
    let known = sorted_name s ts is have in
    let plain = name_written s known.is_name in
    record {
      again = λ before.
          let one = plain.again before in
          let text_same : one.value.text ≡ s.text = ap (λ (n : Name). n.text) one.same in
          record {
            value = one.value;
            spelled = (one.spelled.0, one.spelled.1, one.spelled.2 ∙ (λ i. record { text = resort one.value one.spelled.0 one.spelled.2 text_same i; place = one.spelled.0.place }));
            same = one.same;
          };
      laid = plain.laid;
    }
  where
    resort : (v : Name) (t : Lexeme) → v ≡ record { text = t.text; place = t.place } → v.text ≡ s.text → t.text ≡ sort_text t.text
    resort v t same text_same = let e : t.text ≡ s.text = sym (ap (λ (n : Name). n.text) same) ∙ text_same in e ∙ sym (sorted_name s ts is have).stays ∙ ap sort_text (sym e)

field_written : (f : FieldItem) (ts : List Lexeme) → IsField f ts → HaveTexts ts → Written IsParted bare_field IsField f (field_of f)
field_written f ts is have =
    let s1 = is.at_back in
    as_written {p = IsName ⊗ (IsSign Colon ⊗ IsSort)} (λ v. record { name = v.0; sort = v.1.1 }) (λ v us s. s) (λ v same i. record { name = (same i).0; sort = (same i).1.1 })
    (apart (names_written f.name is.front is.at_front (front_texts is have)) (apart (sign_written Colon tt) (sort_written f.sort s1.back s1.at_back (back_texts s1 (back_texts is have)))))

fields_written : (fields : List FieldItem) (ts : List Lexeme) → AreFieldsOrNone fields ts → HaveTexts ts → Written IsParted (map bare_field) AreFieldsOrNone fields (token SquareOpen ∷ (with_commas field_of fields ++ token SquareClose ∷ []))
fields_written fields ts is have =
    as_written {p = IsSign SquareOpen ⊗ (Any IsComma IsField ⊗ IsSign SquareClose)} (λ v. v.1.0) (λ v us s. inr s) (λ v same i. (same i).1.0)
    (joined (λ after fine. tt) square_written (joined (λ after fine. refl) (any_commas bare_field IsField field_of fields (each is)) (sign_written SquareClose tt)))
  where
    each : AreFieldsOrNone fields ts → AllWritten bare_field IsField field_of fields
    each (inl none) = subst (λ (l : List FieldItem). AllWritten bare_field IsField field_of l) (sym none.0) tt
    each (inr some) = let inside = some.at_back in all_any bare_field IsField field_of field_written IsComma fields inside.front inside.at_front (front_texts inside (back_texts some have))

ctors_written : (ctors : List CtorItem) (ts : List Lexeme) → AreCtors ctors ts → HaveTexts ts → Written IsParted (map bare_ctor) AreCtors ctors (in_braces (with_commas ctor_of ctors))
ctors_written [] ts is have = absurd is.at_back.at_front
ctors_written (c ∷ ctors) ts is have =
    let inside = is.at_back in
    let each = all_items bare_ctor IsCtor ctor_of ctor_written IsComma (c ∷ ctors) inside.front inside.at_front (front_texts inside (back_texts is have)) in
    as_written {p = IsSign CurlyOpen ⊗ (Items IsComma IsCtor ⊗ IsSign CurlyClose)} (λ v. v.1.0) (λ v us s. s) (λ v same i. (same i).1.0)
    (braces_written (items_commas bare_ctor IsCtor ctor_of c ctors each))

type_written : (t : TypeItem) (ts : List Lexeme) → IsTypeItem t ts → HaveTexts ts → Written IsParted bare_type IsTypeItem t (type_item t)
type_written t ts is have =
    let s1 = is.at_back in let t1 = back_texts is have in
    as_written {p = IsName ⊗ (AreFieldsOrNone ⊗ AreCtors)} (λ v. record { name = v.0; fields = v.1.0; ctors = v.1.1 }) (λ v us s. s) (λ v same i. record { name = (same i).0; fields = (same i).1.0; ctors = (same i).1.1 })
    (apart (names_written t.name is.front is.at_front (front_texts is have))
    (again_grouped (with_commas field_of t.fields) (in_braces (with_commas ctor_of t.ctors)) (apart (fields_written t.fields s1.front s1.at_front (front_texts s1 t1)) (ctors_written t.ctors s1.back s1.at_back (back_texts s1 t1)))))
  where
    again_grouped : {A C : Type 0} {f : A → C} {p : A → List Lexeme → Type 0} {a : A} (fields ctors : List Piece) → Written IsParted f p a ((token SquareOpen ∷ (fields ++ token SquareClose ∷ [])) ++ blank ∷ ctors) → Written IsParted f p a (token SquareOpen ∷ (fields ++ token SquareClose ∷ blank ∷ ctors))
    again_grouped {f} {p} {a} fields ctors written = subst (λ (l : List Piece). Written IsParted f p a (token SquareOpen ∷ l)) (append_assoc fields (token SquareClose ∷ []) (blank ∷ ctors)) written

tree_written : (t : TreeItem) (ts : List Lexeme) → IsTreeItem t ts → HaveTexts ts → Written IsParted bare_tree IsTreeItem t (tree_item t)
tree_written t ts is have =
    let s1 = is.at_back in let s2 = s1.at_back in let s3 = s2.at_back in
    let t1 = back_texts is have in let t2 = back_texts s1 t1 in let t3 = back_texts s2 t2 in
    as_written {p = IsName ⊗ (IsSign Colon ⊗ (IsName ⊗ (IsSign Assign ⊗ IsX)))} (λ v. record { name = v.0; of = v.1.1.0; value = v.1.1.1.1 }) (λ v us s. s) (λ v same i. record { name = (same i).0; of = (same i).1.1.0; value = (same i).1.1.1.1 })
    (apart (names_written t.name is.front is.at_front (front_texts is have)) (apart (sign_written Colon tt)
    (apart (names_written t.of s2.front s2.at_front (front_texts s2 t2)) (apart (sign_written Assign tt) (term_written t.value s3.back s3.at_back (back_texts s3 t3))))))

lang_written : (l : LangItem) (ts : List Lexeme) → IsLangItem l ts → HaveTexts ts → Written IsParted bare_lang IsLangItem l (lang_item l)
lang_written l ts is have =
    let s1 = is.at_back in let s2 = s1.at_back in
    let t1 = back_texts is have in let t2 = back_texts s1 t1 in
    as_written {p = IsName ⊗ (IsSign Colon ⊗ (IsName ⊗ InBraces IsRule))} (λ v. record { name = v.0; of = v.1.1.0; rules = v.1.1.1 }) (λ v us s. s) (λ v same i. record { name = (same i).0; of = (same i).1.1.0; rules = (same i).1.1.1 })
    (apart (names_written l.name is.front is.at_front (front_texts is have)) (apart (sign_written Colon tt)
    (apart (names_written l.of s2.front s2.at_front (front_texts s2 t2)) (rules_written bare_rule IsRule rule rule_written l.rules s2.back s2.at_back (back_texts s2 t2)))))

trans_written : (t : TransItem) (ts : List Lexeme) → IsTransItem t ts → HaveTexts ts → Written IsParted bare_trans IsTransItem t (trans_item t)
trans_written t ts is have =
    let s1 = is.at_back in let s2 = s1.at_back in let s3 = s2.at_back in let s4 = s3.at_back in
    let t1 = back_texts is have in let t2 = back_texts s1 t1 in let t3 = back_texts s2 t2 in let t4 = back_texts s3 t3 in
    as_written {p = IsName ⊗ (IsSign Colon ⊗ (IsName ⊗ (IsSign Arrow ⊗ (IsName ⊗ InBraces IsOutRule))))} (λ v. record { name = v.0; from = v.1.1.0; into = v.1.1.1.1.0; rules = v.1.1.1.1.1 }) (λ v us s. s) (λ v same i. record { name = (same i).0; from = (same i).1.1.0; into = (same i).1.1.1.1.0; rules = (same i).1.1.1.1.1 })
    (apart (names_written t.name is.front is.at_front (front_texts is have)) (apart (sign_written Colon tt)
    (apart (names_written t.from s2.front s2.at_front (front_texts s2 t2)) (apart (sign_written Arrow tt)
    (apart (names_written t.into s4.front s4.at_front (front_texts s4 t4)) (rules_written bare_out_rule IsOutRule out_rule out_rule_written t.rules s4.back s4.at_back (back_texts s4 t4)))))))

into_written : (into : Option Name) (ts : List Lexeme) → IsInto into ts → HaveTexts ts → Written IsParted bare_into IsInto into (into_of into)
into_written None ts is have = nothing_written None refl
into_written (Some n) ts is have =
    as_written {p = IsSign Arrow ⊗ IsName} (λ v. Some v.1) (λ v us s. s) (λ v same i. Some (same i).1)
    (spaced (apart (sign_written Arrow tt) (names_written n is.back is.at_back (back_texts is have))))

into_touch : (into : Option Name) (ps : List Piece) → Touches IsParted (into_of into ++ blank ∷ ps) IsParted
into_touch None ps after parted = refl
into_touch (Some n) ps after parted = refl

def_written : (d : DefItem) (ts : List Lexeme) → IsDefItem d ts → HaveTexts ts → Written IsParted bare_def IsDefItem d (def_item d)
def_written d ts is have =
    let s1 = is.at_back in let s2 = s1.at_back in let s3 = s2.at_back in let s4 = s3.at_back in
    let t1 = back_texts is have in let t2 = back_texts s1 t1 in let t3 = back_texts s2 t2 in let t4 = back_texts s3 t3 in
    as_written {p = IsName ⊗ (IsSign Colon ⊗ (IsName ⊗ (IsInto ⊗ (IsSign Assign ⊗ IsX))))} (λ v. record { name = v.0; from = v.1.1.0; into = v.1.1.1.0; value = v.1.1.1.1.1 }) (λ v us s. s) (λ v same i. record { name = (same i).0; from = (same i).1.1.0; into = (same i).1.1.1.0; value = (same i).1.1.1.1.1 })
    (apart (names_written d.name is.front is.at_front (front_texts is have)) (apart (sign_written Colon tt)
    (joined (into_touch d.into (token Assign ∷ blank ∷ term d.value)) (names_written d.from s2.front s2.at_front (front_texts s2 t2))
    (apart (into_written d.into s3.front s3.at_front (front_texts s3 t3)) (apart (sign_written Assign tt) (term_written d.value s4.back s4.at_back (back_texts s4 t4)))))))

claim_written : (c : Claim) (ts : List Lexeme) → IsB c ts → HaveTexts ts → Written IsParted bare_claim IsA c (claim c)
claim_written (equal x y) ts is have =
    let s1 = is.at_back in
    as_written {p = IsX ⊗ (IsSign Same ⊗ IsX)} (λ v. equal v.0 v.1.1) (λ v us s. inl s) (λ v same i. equal (same i).0 (same i).1.1)
    (apart (term_written x is.front is.at_front (front_texts is have)) (apart (sign_written Same tt) (term_written y s1.back s1.at_back (back_texts s1 (back_texts is have)))))
claim_written (member x y) ts is have =
    let s1 = is.at_back in
    as_written {p = IsX ⊗ (IsSign In ⊗ IsX)} (λ v. member v.0 v.1.1) (λ v us s. inl (record { front = s.front; back = s.back; split = s.split; at_front = s.at_front; at_back = record { front = s.at_back.front; back = s.at_back.back; split = s.at_back.split; at_front = inl s.at_back.at_front; at_back = s.at_back.at_back } })) (λ v same i. member (same i).0 (same i).1.1)
    (apart (term_written x is.front is.at_front (front_texts is have)) (apart (sign_written In tt) (term_written y s1.back s1.at_back (back_texts s1 (back_texts is have)))))
claim_written (empty x) ts is have =
    let s1 = is.at_back in let s2 = s1.at_back in
    let t1 = back_texts is have in let t2 = back_texts s1 t1 in
    as_written {p = IsSign RoundOpen ⊗ (IsSign IsEmpty ⊗ (IsX ⊗ IsSign RoundClose))} (λ v. empty v.1.1.0) (λ v us s. inl s) (λ v same i. empty (same i).1.1.0)
    (joined (λ after fine. tt) round_written (apart (sign_written IsEmpty tt) (joined (λ after fine. refl) (term_written x s2.front s2.at_front (front_texts s2 t2)) (sign_written RoundClose tt))))
claim_written (type_check x y z) ts is have =
    let s1 = is.at_back in let s2 = s1.at_back in let s3 = s2.at_back in let s4 = s3.at_back in
    let t1 = back_texts is have in let t2 = back_texts s1 t1 in let t3 = back_texts s2 t2 in let t4 = back_texts s3 t3 in
    as_written {p = IsSign RoundOpen ⊗ ((IsSign TypeCheck ⊗ (IsX ⊗ (IsX ⊗ IsX))) ⊗ IsSign RoundClose)} (λ v. type_check v.1.0.1.0 v.1.0.1.1.0 v.1.0.1.1.1) (λ v us s. inl (second_as (λ ts1 x1. second_as (λ ts2 x2. second_as (λ ts3 x3. flattened x3) (flattened x2)) (flattened x1)) s)) (λ v same i. type_check (same i).1.0.1.0 (same i).1.0.1.1.0 (same i).1.0.1.1.1)
    (parens_written (apart (sign_written TypeCheck tt) (apart (term_written x s2.front s2.at_front (front_texts s2 t2)) (apart (term_written y s3.front s3.at_front (front_texts s3 t3)) (term_written z s4.front s4.at_front (front_texts s4 t4))))))

-- an assertion without parentheses of its own
assertion_written : (c : Claim) (ts : List Lexeme) → IsA c ts → HaveTexts ts → Written IsParted bare_claim IsA c (claim c)
assertion_written c ts (inl is) have = claim_written c ts is have
assertion_written c ts (inr is) have = let inside = is.at_back in claim_written c inside.front inside.at_front (front_texts inside (back_texts is have))

pub spelled_assert : (wanted : Bool) → IsSpelled (assert_word wanted)
spelled_assert true = tt
spelled_assert false = tt

-- an item from its keyword and what is behind it
item_written : (i : Item) (ts : List Lexeme) → IsItem i ts → HaveTexts ts → Written IsParted bare_item IsItem i (item i)
item_written i ts is have = by i.body i.place is
  where
    by : (b : Body) (p : Pos) → IsBody b p ts → Written IsParted bare_item IsItem (record { place = p; body = b }) (item (record { place = p; body = b }))
    by (sorts t) p s = as_written {p = IsAt TypeWord ⊗ IsTypeItem} (λ v. record { place = v.0; body = sorts v.1 }) (λ v us x. x) (λ v same i. record { place = nowhere; body = sorts (same i).1 }) (apart (at_written TypeWord p tt) (type_written t s.back s.at_back (back_texts s have)))
    by (tree t) p s = as_written {p = IsAt Tree ⊗ IsTreeItem} (λ v. record { place = v.0; body = tree v.1 }) (λ v us x. x) (λ v same i. record { place = nowhere; body = tree (same i).1 }) (apart (at_written Tree p tt) (tree_written t s.back s.at_back (back_texts s have)))
    by (lang t) p s = as_written {p = IsAt Lang ⊗ IsLangItem} (λ v. record { place = v.0; body = lang v.1 }) (λ v us x. x) (λ v same i. record { place = nowhere; body = lang (same i).1 }) (apart (at_written Lang p tt) (lang_written t s.back s.at_back (back_texts s have)))
    by (trans t) p s = as_written {p = IsAt Trans ⊗ IsTransItem} (λ v. record { place = v.0; body = trans v.1 }) (λ v us x. x) (λ v same i. record { place = nowhere; body = trans (same i).1 }) (apart (at_written Trans p tt) (trans_written t s.back s.at_back (back_texts s have)))
    by (def t) p s = as_written {p = IsAt Def ⊗ IsDefItem} (λ v. record { place = v.0; body = def v.1 }) (λ v us x. x) (λ v same i. record { place = nowhere; body = def (same i).1 }) (apart (at_written Def p tt) (def_written t s.back s.at_back (back_texts s have)))
    by (assertion a) p s = as_written {p = IsAt (assert_word a.wanted) ⊗ IsA} (λ v. record { place = v.0; body = assertion (record { wanted = a.wanted; claim = v.1 }) }) (λ v us x. x) (λ v same i. record { place = nowhere; body = assertion (record { wanted = a.wanted; claim = (same i).1 }) }) (apart (at_written (assert_word a.wanted) p (spelled_assert a.wanted)) (assertion_written a.claim s.back s.at_back (back_texts s have)))

-- a line feed before
line_behind : {A C : Type 0} {may : List ℕ → Type 0} {f : A → C} {p : A → List Lexeme → Type 0} {a : A} {ps : List Piece} → Written may f p a ps → Written may f p a (line_end ∷ ps)
line_behind {ps} written = record {
  again = λ before. written.again (before ++ 10 ∷ []);
  laid = λ after fine. (blank_longest 10 (texts_of ps ++ after) refl, written.laid after fine);
}

lines_written : (items : List Item) → AllWritten bare_item IsItem item items → Written IsParted bare_items (Many IsItem) items (lines items)
lines_written [] all = nothing_written [] refl
lines_written (i ∷ items) all =
    as_written {p = IsItem ⊗ Many IsItem} (λ v. v.0 ∷ v.1) (λ v us s. s) (λ v same j. (same j).0 ∷ (same j).1)
    (joined (λ after fine. refl) all.0 (line_behind (lines_written items all.1)))

-- what is printed of a program spells it
pub program_written : (items : List Item) (ts : List Lexeme) → IsProgram items ts → HaveTexts ts → Written IsParted bare_items IsProgram items (lines items)
program_written items ts is have = lines_written items (all_many bare_item IsItem item item_written items ts is have)
