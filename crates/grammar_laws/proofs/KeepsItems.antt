-- Printed items nest no deeper than those that were read.
use Rattle.std.proofs.Common.{◌≡◌, ℕ, ℤ, List, [], ◌∷◌, ◌++◌, refl, sym, ap, ◌∙◌, subst, append_assoc, Option, Some, None, inl, inr}
use Rattle.std.specs.Prelude.{pos}
use Rattle.std.specs.Fmt.{decimal}
use Rattle.std.specs.Str.Parse.{digits_value}
use Rattle.fast_fault.specs.declared.place.Pos.{Pos}
use Rattle.model_program.specs.declared.Word.{Word}
use Rattle.model_program.specs.declared.Word.TheVariants.{TypeWord, Tree, Lang, Trans, Def, Where, Given, To, In, IsEmpty, TypeCheck, Number, RoundOpen, RoundClose, SquareOpen, SquareClose, CurlyOpen, CurlyClose, Colon, Assign, Arrow, Same, Element}
use Rattle.model_program.specs.Lexeme.{Lexeme}
use Rattle.model_program.specs.Syntax.{Name, FieldItem, CtorItem, TypeItem, Demand}
use Rattle.model_program.specs.Pieces.{Digits}
use Rattle.model_program.specs.Cuts.{Piece, lexemes_after}
use Rattle.model_program.specs.Joined.{◌⌢◌}
use Rattle.model_program.specs.Grammar.{IsAt, IsName, IsNumber, Many, AreVars, IsGiven, IsDemand, IsCtor, IsSort, IsField, AreFieldsOrNone, AreCtors, IsTypeItem, assert_word}
use Rattle.model_program.specs.TokenTexts.{HaveTexts}
use Rattle.model_grammar.specs.Nesting.{nested_at}
use Rattle.model_grammar.specs.Syntax.{Expr, X, Rule, OutRule, TreeItem, LangItem, TransItem, DefItem, Claim, equal, member, empty, type_check, Body, sorts, tree, lang, trans, def, assertion, Item}
use Rattle.model_grammar.specs.Terms.{IsX}
use Rattle.model_grammar.specs.declared.Level.TheVariants.{E}
use Rattle.model_grammar.specs.Grammar.{IsGuard, IsRule, IsOutRule, InBraces, IsTreeItem, IsLangItem, IsTransItem, IsInto, IsDefItem, IsIn, IsB, IsA, IsBody, IsItem, IsProgram}
use Rattle.model_grammar.specs.Printed.{blank, token, name, whole, bracketed, with_commas, in_braces, rules_of, term, demand, guarded, demands, rule, out_rule, field_of, ctor_of, type_item, tree_item, lang_item, trans_item, into_of, def_item, claim, item, lines}
use Rattle.model_grammar.proofs.Tokens.{IsSpelled, token_at, token_then}
use Rattle.model_program.specs.Spellings.{spelling}
use Rattle.model_grammar.proofs.WrittenItems.{front_texts, back_texts, sorted_name, spelled_assert}
use Rattle.grammar_laws.specs.Nests.{NoDeeper}
use Rattle.grammar_laws.proofs.Runs.{IsPlain, balanced-append, balanced_word, shallow_runs, runs_shallow}
use Rattle.grammar_laws.proofs.Keeps.{Keeps, keeps_nothing, keeps_blank, keeps_word, keeps_added, keeps_dropped, keeps_one, keeps_name, keeps_unbracketed}
use Rattle.grammar_laws.proofs.KeepsExpressions.{plain_as, expression_kept}
use Rattle.grammar_laws.proofs.KeepsTerms.{KeptAs, kept-append, kept_blank, kept_word, kept_parens, kept_as, plain_word, sign_first, joined_kept, sign_kept, names_kept, items_kept, any_kept, bars_kept, many_kept, term_kept, output_kept}

name_keeps : (n : Name) (ts : List Lexeme) → IsName n ts → HaveTexts ts → Keeps (name n) ts
name_keeps n ts is have = (names_kept n ts is have).own

term_keeps : (x : X) (ts : List Lexeme) → IsX x ts → HaveTexts ts → Keeps (term x) ts
term_keeps x ts is have = (term_kept x ts is have).own

demand_keeps : (d : Demand) (ts : List Lexeme) → IsDemand d ts → HaveTexts ts → Keeps (demand d) ts
demand_keeps d ts is have =
    let s1 = is.at_back in let s2 = s1.at_back in let t1 = back_texts is have in
    sign_first RoundOpen tt is (joined_kept s1 (name_keeps d.language s1.front s1.at_front (front_texts s1 t1)) (keeps_blank (joined_kept s2 (name_keeps d.child s2.front s2.at_front (front_texts s2 (back_texts s1 t1))) (sign_kept RoundClose s2.back tt s2.at_back))))

vars_keep : (vars : List Name) (ts : List Lexeme) → AreVars vars ts → HaveTexts ts → Keeps (bracketed (with_commas name vars)) ts
vars_keep vars ts is have =
    let s1 = is.at_back in
    sign_first RoundOpen tt is (joined_kept s1 (any_kept IsName name name_keeps vars s1.front s1.at_front (front_texts s1 (back_texts is have))) (sign_kept RoundClose s1.back tt s1.at_back))

guard_keeps : (guard : Option Expr) (ts : List Lexeme) → IsGuard guard ts → HaveTexts ts → Keeps (guarded guard) ts
guard_keeps None ts is have = subst (λ (l : List Lexeme). Keeps [] l) (sym is) keeps_nothing
guard_keeps (Some e) ts is have = keeps_blank (sign_first Where tt is (keeps_blank (expression_kept E e is.back is.at_back (back_texts is have)).own))

given_keeps : (given : List Demand) (ts : List Lexeme) → IsGiven given ts → HaveTexts ts → Keeps (demands given) ts
given_keeps [] ts is have = subst (λ (l : List Lexeme). Keeps [] l) (sym is) keeps_nothing
given_keeps (d ∷ ds) ts is have = keeps_blank (sign_first Given tt is (many_kept IsDemand demand demand_keeps (d ∷ ds) is.back is.at_back (back_texts is have)))

rule_keeps : (r : Rule) (ts : List Lexeme) → IsRule r ts → HaveTexts ts → Keeps (rule r) ts
rule_keeps r ts is have =
    let s1 = is.at_back in let s2 = s1.at_back in let t1 = back_texts is have in let t2 = back_texts s1 t1 in
    joined_kept is (name_keeps r.ctor is.front is.at_front (front_texts is have)) (joined_kept s1 (vars_keep r.vars s1.front s1.at_front (front_texts s1 t1)) (joined_kept s2 (guard_keeps r.guard s2.front s2.at_front (front_texts s2 t2)) (given_keeps r.given s2.back s2.at_back (back_texts s2 t2))))

out_rule_keeps : (r : OutRule) (ts : List Lexeme) → IsOutRule r ts → HaveTexts ts → Keeps (out_rule r) ts
out_rule_keeps r ts is have =
    let s1 = is.at_back in let t1 = back_texts is have in
    joined_kept is (rule_keeps r.rule is.front is.at_front (front_texts is have)) (keeps_blank (sign_first To tt s1 (keeps_blank (output_kept r.out s1.back s1.at_back (back_texts s1 t1)).own)))

rules_keep : {A : Type 0} (p : A → List Lexeme → Type 0) (show : A → List Piece) → ((a : A) (ts : List Lexeme) → p a ts → HaveTexts ts → Keeps (show a) ts) → (rules : List A) (ts : List Lexeme) → InBraces p rules ts → HaveTexts ts → Keeps (rules_of show rules) ts
rules_keep p show one rules ts is have =
    let s1 = is.at_back in
    sign_first CurlyOpen tt is (keeps_blank (joined_kept s1 (bars_kept p show one rules s1.front s1.at_front (front_texts s1 (back_texts is have))) (keeps_blank (sign_kept CurlyClose s1.back tt s1.at_back))))

number_keeps : (n : ℤ) (ts : List Lexeme) → IsNumber n ts → Keeps (whole n) ts
number_keeps n ts is =
    subst (λ (z : ℤ). Keeps (whole z) ts) (sym is.3) (subst (λ (l : List Lexeme). Keeps (whole (pos (digits_value 10 is.0.text))) l) (sym is.1.0) (keeps_one is.0 Number Digits (decimal (digits_value 10 is.0.text)) refl is.1.1))

ctor_keeps : (c : CtorItem) (ts : List Lexeme) → IsCtor c ts → HaveTexts ts → Keeps (ctor_of c) ts
ctor_keeps c ts is have =
    let s1 = is.at_back in let s2 = s1.at_back in
    joined_kept is (name_keeps c.name is.front is.at_front (front_texts is have)) (sign_first RoundOpen tt s1 (joined_kept s2 (number_keeps c.rank s2.front s2.at_front) (sign_kept RoundClose s2.back tt s2.at_back)))

sort_keeps : (s : Name) (ts : List Lexeme) → IsSort s ts → HaveTexts ts → Keeps (name s) ts
sort_keeps s ts is have = subst (λ (l : List Lexeme). Keeps (name s) l) (sym is.1.0) (keeps_name is.0 s.text (sorted_name s ts is have).is_name is.1.1)

field_keeps : (f : FieldItem) (ts : List Lexeme) → IsField f ts → HaveTexts ts → Keeps (field_of f) ts
field_keeps f ts is have =
    let s1 = is.at_back in
    joined_kept is (name_keeps f.name is.front is.at_front (front_texts is have)) (keeps_blank (sign_first Colon tt s1 (keeps_blank (sort_keeps f.sort s1.back s1.at_back (back_texts s1 (back_texts is have))))))

-- empty brackets
brackets_keep : (before : List ℕ) → NoDeeper (lexemes_after before (token SquareOpen ∷ token SquareClose ∷ [])) []
brackets_keep before =
    let tokens = token_then SquareOpen tt before (token SquareClose ∷ []) ∙ ap (λ l. token_at SquareOpen before (spelling SquareOpen) ∷ l) (token_then SquareClose tt (before ++ spelling SquareOpen) []) in
    subst (λ (l : List Lexeme). NoDeeper l []) (sym tokens) (record { runs = λ marks left same. (refl, (refl, same)) })

fields_keep : (fields : List FieldItem) (ts : List Lexeme) → AreFieldsOrNone fields ts → HaveTexts ts → Keeps (token SquareOpen ∷ (with_commas field_of fields ++ token SquareClose ∷ [])) ts
fields_keep fields ts (inl none) have =
    subst (λ (l : List Lexeme). Keeps (token SquareOpen ∷ (with_commas field_of fields ++ token SquareClose ∷ [])) l) (sym none.1)
    (subst (λ (fs : List FieldItem). Keeps (token SquareOpen ∷ (with_commas field_of fs ++ token SquareClose ∷ [])) []) (sym none.0) (record { keeps = brackets_keep }))
fields_keep fields ts (inr is) have =
    let s1 = is.at_back in
    sign_first SquareOpen tt is (joined_kept s1 (any_kept IsField field_of field_keeps fields s1.front s1.at_front (front_texts s1 (back_texts is have))) (sign_kept SquareClose s1.back tt s1.at_back))

ctors_keep : (ctors : List CtorItem) (ts : List Lexeme) → AreCtors ctors ts → HaveTexts ts → Keeps (in_braces (with_commas ctor_of ctors)) ts
ctors_keep ctors ts is have =
    let s1 = is.at_back in
    sign_first CurlyOpen tt is (keeps_blank (joined_kept s1 (items_kept IsCtor ctor_of ctor_keeps ctors s1.front s1.at_front (front_texts s1 (back_texts is have))) (keeps_blank (sign_kept CurlyClose s1.back tt s1.at_back))))

type_keeps : (t : TypeItem) (ts : List Lexeme) → IsTypeItem t ts → HaveTexts ts → Keeps (type_item t) ts
type_keeps t ts is have =
    let s1 = is.at_back in let t1 = back_texts is have in
    joined_kept is (name_keeps t.name is.front is.at_front (front_texts is have))
    (keeps_blank (subst (λ (ps : List Piece). Keeps (token SquareOpen ∷ ps) is.back) (append_assoc (with_commas field_of t.fields) (token SquareClose ∷ []) (blank ∷ in_braces (with_commas ctor_of t.ctors)))
    (joined_kept s1 (fields_keep t.fields s1.front s1.at_front (front_texts s1 t1)) (keeps_blank (ctors_keep t.ctors s1.back s1.at_back (back_texts s1 t1))))))

tree_keeps : (t : TreeItem) (ts : List Lexeme) → IsTreeItem t ts → HaveTexts ts → Keeps (tree_item t) ts
tree_keeps t ts is have =
    let s1 = is.at_back in let s2 = s1.at_back in let s3 = s2.at_back in
    let t1 = back_texts is have in let t2 = back_texts s1 t1 in let t3 = back_texts s2 t2 in
    joined_kept is (name_keeps t.name is.front is.at_front (front_texts is have)) (keeps_blank (sign_first Colon tt s1 (keeps_blank
    (joined_kept s2 (name_keeps t.of s2.front s2.at_front (front_texts s2 t2)) (keeps_blank (sign_first Assign tt s3 (keeps_blank (term_keeps t.value s3.back s3.at_back (back_texts s3 t3)))))))))

lang_keeps : (l : LangItem) (ts : List Lexeme) → IsLangItem l ts → HaveTexts ts → Keeps (lang_item l) ts
lang_keeps l ts is have =
    let s1 = is.at_back in let s2 = s1.at_back in
    let t1 = back_texts is have in let t2 = back_texts s1 t1 in
    joined_kept is (name_keeps l.name is.front is.at_front (front_texts is have)) (keeps_blank (sign_first Colon tt s1 (keeps_blank
    (joined_kept s2 (name_keeps l.of s2.front s2.at_front (front_texts s2 t2)) (keeps_blank (rules_keep IsRule rule rule_keeps l.rules s2.back s2.at_back (back_texts s2 t2)))))))

trans_keeps : (t : TransItem) (ts : List Lexeme) → IsTransItem t ts → HaveTexts ts → Keeps (trans_item t) ts
trans_keeps t ts is have =
    let s1 = is.at_back in let s2 = s1.at_back in let s3 = s2.at_back in let s4 = s3.at_back in
    let t1 = back_texts is have in let t2 = back_texts s1 t1 in let t3 = back_texts s2 t2 in let t4 = back_texts s3 t3 in
    joined_kept is (name_keeps t.name is.front is.at_front (front_texts is have)) (keeps_blank (sign_first Colon tt s1 (keeps_blank
    (joined_kept s2 (name_keeps t.from s2.front s2.at_front (front_texts s2 t2)) (keeps_blank (sign_first Arrow tt s3 (keeps_blank
    (joined_kept s4 (name_keeps t.into s4.front s4.at_front (front_texts s4 t4)) (keeps_blank (rules_keep IsOutRule out_rule out_rule_keeps t.rules s4.back s4.at_back (back_texts s4 t4)))))))))))

into_keeps : (into : Option Name) (ts : List Lexeme) → IsInto into ts → HaveTexts ts → Keeps (into_of into) ts
into_keeps None ts is have = subst (λ (l : List Lexeme). Keeps [] l) (sym is) keeps_nothing
into_keeps (Some n) ts is have = keeps_blank (sign_first Arrow tt is (keeps_blank (name_keeps n is.back is.at_back (back_texts is have))))

def_keeps : (d : DefItem) (ts : List Lexeme) → IsDefItem d ts → HaveTexts ts → Keeps (def_item d) ts
def_keeps d ts is have =
    let s1 = is.at_back in let s2 = s1.at_back in let s3 = s2.at_back in let s4 = s3.at_back in
    let t1 = back_texts is have in let t2 = back_texts s1 t1 in let t3 = back_texts s2 t2 in let t4 = back_texts s3 t3 in
    joined_kept is (name_keeps d.name is.front is.at_front (front_texts is have)) (keeps_blank (sign_first Colon tt s1 (keeps_blank
    (joined_kept s2 (name_keeps d.from s2.front s2.at_front (front_texts s2 t2)) (joined_kept s3 (into_keeps d.into s3.front s3.at_front (front_texts s3 t3)) (keeps_blank (sign_first Assign tt s4 (keeps_blank (term_keeps d.value s4.back s4.at_back (back_texts s4 t4))))))))))

between_kept : (w : Word) (x y : X) (front middle back : List Lexeme) (t : Lexeme) → IsSpelled w → IsPlain w → t.word ≡ w → middle ≡ t ∷ [] → KeptAs (term x) front → KeptAs (term y) back → KeptAs (term x ++ blank ∷ token w ∷ blank ∷ term y) (front ++ (middle ++ back))
between_kept w x y front middle back t is plain same one kept_x kept_y = kept_as (ap (λ l. front ++ (l ++ back)) (sym one)) (kept-append kept_x (kept_blank (kept_word w t is plain same (kept_blank kept_y))))

in_kept : (x y : X) (front middle back : List Lexeme) → IsIn tt middle → KeptAs (term x) front → KeptAs (term y) back → KeptAs (term x ++ blank ∷ token In ∷ blank ∷ term y) (front ++ (middle ++ back))
in_kept x y front middle back (inl s) kept_x kept_y = between_kept In x y front middle back s.0 tt (plain_word In (λ m. refl) (λ m. refl)) s.1.1 s.1.0 kept_x kept_y
in_kept x y front middle back (inr s) kept_x kept_y =
    let plain = plain_as s.0.word Element (plain_word Element (λ m. refl) (λ m. refl)) s.1.1 in
    kept_as (ap (λ l. front ++ (l ++ back)) (sym s.1.0)) (kept-append kept_x (kept_blank
    (record { own = keeps_added In tt (plain_word In (λ m. refl) (λ m. refl)) (keeps_dropped s.0 plain (keeps_blank kept_y.own)); balanced = balanced-append (s.0 ∷ []) back (balanced_word s.0 plain) kept_y.balanced })))

claim_kept : (c : Claim) (ts : List Lexeme) → IsB c ts → HaveTexts ts → KeptAs (claim c) ts
claim_kept (equal x y) ts is have =
    let s1 = is.at_back in
    kept_as (sym (is.split ∙ ap (λ l. is.front ++ l) s1.split)) (between_kept Same x y is.front s1.front s1.back s1.at_front.0 tt (plain_word Same (λ m. refl) (λ m. refl)) s1.at_front.1.1 s1.at_front.1.0 (term_kept x is.front is.at_front (front_texts is have)) (term_kept y s1.back s1.at_back (back_texts s1 (back_texts is have))))
claim_kept (member x y) ts is have =
    let s1 = is.at_back in
    kept_as (sym (is.split ∙ ap (λ l. is.front ++ l) s1.split)) (in_kept x y is.front s1.front s1.back s1.at_front (term_kept x is.front is.at_front (front_texts is have)) (term_kept y s1.back s1.at_back (back_texts s1 (back_texts is have))))
claim_kept (empty x) ts is have =
    let s1 = is.at_back in let s2 = s1.at_back in
    let t1 = back_texts is have in let t2 = back_texts s1 t1 in
    let l = is.at_front.0 in let op = s1.at_front.0 in let r = s2.at_back.0 in
    let split : ts ≡ l ∷ op ∷ s2.front ++ r ∷ [] = is.split ∙ ap (λ k. k ++ is.back) is.at_front.1.0 ∙ ap (λ k. l ∷ k) (s1.split ∙ ap (λ k. k ++ s1.back) s1.at_front.1.0 ∙ ap (λ k. op ∷ k) (s2.split ∙ ap (λ k. s2.front ++ k) s2.at_back.1.0)) in
    kept_as (sym split) (kept_parens l r is.at_front.1.1 s2.at_back.1.1 (kept_word IsEmpty op tt (plain_word IsEmpty (λ m. refl) (λ m. refl)) s1.at_front.1.1 (kept_blank (term_kept x s2.front s2.at_front (front_texts s2 t2)))))
claim_kept (type_check x y z) ts is have =
    let s1 = is.at_back in let s2 = s1.at_back in let s3 = s2.at_back in let s4 = s3.at_back in
    let t1 = back_texts is have in let t2 = back_texts s1 t1 in let t3 = back_texts s2 t2 in let t4 = back_texts s3 t3 in
    let l = is.at_front.0 in let op = s1.at_front.0 in let r = s4.at_back.0 in
    let flat : s2.front ++ (s3.front ++ (s4.front ++ r ∷ [])) ≡ (s2.front ++ (s3.front ++ s4.front)) ++ r ∷ [] = sym (append_assoc s2.front (s3.front ++ s4.front) (r ∷ []) ∙ ap (λ k. s2.front ++ k) (append_assoc s3.front s4.front (r ∷ []))) in
    let inner : s1.back ≡ s2.front ++ (s3.front ++ (s4.front ++ r ∷ [])) = s2.split ∙ ap (λ k. s2.front ++ k) (s3.split ∙ ap (λ k. s3.front ++ k) (s4.split ∙ ap (λ k. s4.front ++ k) s4.at_back.1.0)) in
    let split : ts ≡ l ∷ op ∷ (s2.front ++ (s3.front ++ s4.front)) ++ r ∷ [] = is.split ∙ ap (λ k. k ++ is.back) is.at_front.1.0 ∙ ap (λ k. l ∷ k) (s1.split ∙ ap (λ k. k ++ s1.back) s1.at_front.1.0 ∙ ap (λ k. op ∷ k) (inner ∙ flat)) in
    kept_as (sym split) (kept_parens l r is.at_front.1.1 s4.at_back.1.1 (kept_word TypeCheck op tt (plain_word TypeCheck (λ m. refl) (λ m. refl)) s1.at_front.1.1 (kept_blank
    (kept-append (term_kept x s2.front s2.at_front (front_texts s2 t2)) (kept_blank (kept-append (term_kept y s3.front s3.at_front (front_texts s3 t3)) (kept_blank (term_kept z s4.front s4.at_front (front_texts s4 t4)))))))))

assertion_keeps : (c : Claim) (ts : List Lexeme) → IsA c ts → HaveTexts ts → Keeps (claim c) ts
assertion_keeps c ts (inl is) have = (claim_kept c ts is have).own
assertion_keeps c ts (inr is) have =
    let s1 = is.at_back in
    let l = is.at_front.0 in let r = s1.at_back.0 in
    let kept = claim_kept c s1.front s1.at_front (front_texts s1 (back_texts is have)) in
    let split : ts ≡ l ∷ s1.front ++ r ∷ [] = is.split ∙ ap (λ k. k ++ is.back) is.at_front.1.0 ∙ ap (λ k. l ∷ k) (s1.split ∙ ap (λ k. s1.front ++ k) s1.at_back.1.0) in
    subst (λ (k : List Lexeme). Keeps (claim c) k) (sym split) (keeps_unbracketed l r is.at_front.1.1 s1.at_back.1.1 kept.balanced kept.own)

at_first : {q : List Lexeme → Type 0} {qs : List Piece} {ts : List Lexeme} (w : Word) (p : Pos) → IsSpelled w → (s : (IsAt w p ⌢ q) ts) → Keeps qs s.back → Keeps (token w ∷ qs) ts
at_first {q} {qs} {ts} w p is s later = subst (λ (l : List Lexeme). Keeps (token w ∷ qs) l) (sym (s.split ∙ ap (λ l. l ++ s.back) s.at_front.1.0)) (keeps_word w s.at_front.0 is s.at_front.1.1 later)

item_keeps : (i : Item) (ts : List Lexeme) → IsItem i ts → HaveTexts ts → Keeps (item i) ts
item_keeps i ts is have = by i.body i.place is
  where
    by : (b : Body) (p : Pos) → IsBody b p ts → Keeps (item (record { place = p; body = b })) ts
    by (sorts t) p s = at_first TypeWord p tt s (keeps_blank (type_keeps t s.back s.at_back (back_texts s have)))
    by (tree t) p s = at_first Tree p tt s (keeps_blank (tree_keeps t s.back s.at_back (back_texts s have)))
    by (lang l) p s = at_first Lang p tt s (keeps_blank (lang_keeps l s.back s.at_back (back_texts s have)))
    by (trans t) p s = at_first Trans p tt s (keeps_blank (trans_keeps t s.back s.at_back (back_texts s have)))
    by (def d) p s = at_first Def p tt s (keeps_blank (def_keeps d s.back s.at_back (back_texts s have)))
    by (assertion a) p s = at_first (assert_word a.wanted) p (spelled_assert a.wanted) s (keeps_blank (assertion_keeps a.claim s.back s.at_back (back_texts s have)))

lines_keep : (items : List Item) (ts : List Lexeme) → Many IsItem items ts → HaveTexts ts → Keeps (lines items) ts
lines_keep [] ts is have = subst (λ (l : List Lexeme). Keeps [] l) (sym is) keeps_nothing
lines_keep (i ∷ items) ts is have =
    let rest = lines_keep items is.back is.at_back (back_texts is have) in
    joined_kept is (item_keeps i is.front is.at_front (front_texts is have)) (record { keeps = λ before. rest.keeps (before ++ 10 ∷ []) })

pub printed_shallow : (items : List Item) (tokens : List Lexeme) → IsProgram items tokens → HaveTexts tokens → nested_at tokens ≡ None → nested_at (lexemes_after [] (lines items)) ≡ None
printed_shallow items tokens is have shallow =
    let runs = shallow_runs [] tokens shallow in
    let kept = (lines_keep items tokens is have).keeps [] in
    runs_shallow [] runs.0 (lexemes_after [] (lines items)) (kept.runs [] runs.0 runs.1)
