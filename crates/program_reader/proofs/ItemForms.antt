-- Of what items are made.
use Rattle.std.proofs.Common.{◌≡◌, ◌<◌, ◌≤◌, ℕ, length, arith, Bool, true, false, List, [], ◌∷◌, ◌++◌, refl, sym, ap, ◌∙◌, subst, Option, Some, None, Result, Ok, Err, ◌⊎◌, inl, inr}
use Rattle.fast_fault.specs.declared.place.Pos.{Pos}
use Rattle.model_program.specs.declared.Word.{Word}
use Rattle.model_program.specs.declared.Word.TheVariants.{TypeWord, Tree, Lang, Trans, Def, AssertTrue, AssertFalse, Arrow, Assign, Colon}
use Rattle.model_program.specs.Lexeme.{Lexeme}
use Rattle.model_program.specs.Syntax.{Name, TypeItem}
use Rattle.model_program.specs.Joined.{◌⌢◌, IsNext, IsOther, ◌⊗◌}
use Rattle.read_forms.specs.Reads.{Stops, IsRead, Fails, StartsIn, closed, anything}
use Rattle.model_program.specs.Grammar.{IsAt, IsName, Many, IsTypeItem, assert_word, sign}
use Rattle.read_forms.specs.Parts.{Ends, HasSample, AllStartIn}
use Rattle.read_forms.specs.Fronts.{Made}
use Rattle.read_forms.proofs.Forms.{Chained, Makes, as_read, as_fails, chained_read, chained_fails, sample_as, sample_pair, remade, stands, left_out, elsewhere, ends_closed, ends_starting, starts_joined, starts_append, starts_wider, starts_next, stops_other}
use Rattle.read_forms.proofs.Words.{sign_starts, sample_sign, sample_at}
use Rattle.read_forms.proofs.Lists.{IsPartWay, to_left, to_right, many_ends}
use Rattle.read_forms.proofs.Fronts.{made_makes, makes_of_made}
use Rattle.model_grammar.specs.Syntax.{X, OutRule, TransItem, Claim, Body, sorts, tree, lang, trans, def, assertion, Item}
use Rattle.model_grammar.specs.Grammar.{IsRule, IsOutRule, InBraces, IsTreeItem, IsLangItem, IsTransItem, IsInto, IsDefItem, IsA, IsBody, IsItem, IsProgram}
use Rattle.label_reader.specs.declared.stop.Stop.{Stop}
use Rattle.label_reader.specs.Results.{bad_of, Reads}
use Rattle.label_reader.proofs.Primaries.{missing}
use Rattle.program_reader.specs.Goings.{arrow_word}
use Rattle.program_reader.specs.Names.{IsNameBehind}
use Rattle.program_reader.specs.Items.{IsTyped, IsAssigned, item_at, asserted, IsBehind}
use Rattle.program_reader.proofs.XForms.{sample_x}
use Rattle.program_reader.proofs.AssertForms.{sample_a}

back_as : (p q r : List Lexeme → Type 0) (ts : List Lexeme) → ((l : List Lexeme) → q l → r l) → (p ⌢ q) ts → (p ⌢ r) ts
back_as p q r ts wider joined = record { front = joined.front; back = joined.back; split = joined.split; at_front = joined.at_front; at_back = wider joined.back joined.at_back }

-- ID : ID, in front of more
typed_into : (n m : Name) (r : List Lexeme → Type 0) (ts : List Lexeme) → (IsTyped (n, m) ⌢ r) ts → (IsName n ⌢ sign Colon ⌢ IsName m ⌢ r) ts
typed_into n m r ts joined = back_as (IsName n) ((sign Colon ⌢ IsName m) ⌢ r) (sign Colon ⌢ IsName m ⌢ r) ts (to_right (sign Colon) (IsName m) r) (to_right (IsName n) (sign Colon ⌢ IsName m) r ts joined)

typed_back : (n m : Name) (r : List Lexeme → Type 0) (ts : List Lexeme) → (IsName n ⌢ sign Colon ⌢ IsName m ⌢ r) ts → (IsTyped (n, m) ⌢ r) ts
typed_back n m r ts joined = to_left (IsName n) (sign Colon ⌢ IsName m) r ts (back_as (IsName n) (sign Colon ⌢ IsName m ⌢ r) ((sign Colon ⌢ IsName m) ⌢ r) ts (to_left (sign Colon) (IsName m) r) joined)

-- What stands behind the first words.

pub tree_makes : (place : Pos) (tokens : List Lexeme) → Makes (IsTyped ⊗ IsAssigned) (IsBehind Tree place) (λ v. item_at place (tree (record { name = v.0.0; of = v.0.1; value = v.1 }))) closed tokens
tree_makes place tokens = makes_of_made {to = λ v. record { name = v.0.0; of = v.0.1; value = v.1 }} (remade
    (λ v ts spelled. typed_into v.0.0 v.0.1 (IsAssigned v.1) ts spelled)
    (λ t ts spelled. (((t.name, t.of), t.value), typed_back t.name t.of (IsAssigned t.value) ts spelled, refl))) (made_makes (λ t. item_at place (tree t)) IsTreeItem)

pub lang_makes : (place : Pos) (tokens : List Lexeme) → Makes (IsTyped ⊗ InBraces IsRule) (IsBehind Lang place) (λ v. item_at place (lang (record { name = v.0.0; of = v.0.1; rules = v.1 }))) closed tokens
lang_makes place tokens = makes_of_made {to = λ v. record { name = v.0.0; of = v.0.1; rules = v.1 }} (remade
    (λ v ts spelled. typed_into v.0.0 v.0.1 (InBraces IsRule v.1) ts spelled)
    (λ l ts spelled. (((l.name, l.of), l.rules), typed_back l.name l.of (InBraces IsRule l.rules) ts spelled, refl))) (made_makes (λ l. item_at place (lang l)) IsLangItem)

pub trans_makes : (place : Pos) (tokens : List Lexeme) → Makes (IsTyped ⊗ (IsNameBehind Arrow ⊗ InBraces IsOutRule)) (IsBehind Trans place) (λ v. item_at place (trans (record { name = v.0.0; from = v.0.1; into = v.1.0; rules = v.1.1 }))) closed tokens
trans_makes place tokens = makes_of_made {to = λ v. record { name = v.0.0; from = v.0.1; into = v.1.0; rules = v.1.1 }} (remade (λ v ts spelled. into v ts spelled) (λ t ts spelled. back t ts spelled)) (made_makes (λ t. item_at place (trans t)) IsTransItem)
  where
    into : (v : (Name × Name) × (Name × List OutRule)) (ts : List Lexeme) → (IsTyped ⊗ (IsNameBehind Arrow ⊗ InBraces IsOutRule)) v ts → (IsName v.0.0 ⌢ sign Colon ⌢ IsName v.0.1 ⌢ (sign Arrow ⌢ IsName v.1.0 ⌢ InBraces IsOutRule v.1.1)) ts
    into v ts spelled = typed_into v.0.0 v.0.1 (sign Arrow ⌢ IsName v.1.0 ⌢ InBraces IsOutRule v.1.1) ts (back_as (IsTyped v.0) (IsNameBehind Arrow v.1.0 ⌢ InBraces IsOutRule v.1.1) (sign Arrow ⌢ IsName v.1.0 ⌢ InBraces IsOutRule v.1.1) ts (to_right (sign Arrow) (IsName v.1.0) (InBraces IsOutRule v.1.1)) spelled)

    back : (t : TransItem) (ts : List Lexeme) → IsTransItem t ts → (v : (Name × Name) × (Name × List OutRule)) × (IsTyped ⊗ (IsNameBehind Arrow ⊗ InBraces IsOutRule)) v ts × (t ≡ record { name = v.0.0; from = v.0.1; into = v.1.0; rules = v.1.1 })
    back t ts spelled = (((t.name, t.from), (t.into, t.rules)), back_as (IsTyped (t.name, t.from)) (sign Arrow ⌢ IsName t.into ⌢ InBraces IsOutRule t.rules) (IsNameBehind Arrow t.into ⌢ InBraces IsOutRule t.rules) ts (to_left (sign Arrow) (IsName t.into) (InBraces IsOutRule t.rules)) (typed_back t.name t.from (sign Arrow ⌢ IsName t.into ⌢ InBraces IsOutRule t.rules) ts spelled), refl)

pub into_makes : (tokens : List Lexeme) → IsNext Arrow tokens → Makes (IsNameBehind Arrow) IsInto (λ n. Some n) arrow_word tokens
into_makes tokens is_next = stands tokens (λ n ts spelled. spelled) (λ m ts spelled. back m ts spelled) (starts_next Arrow arrow_word tokens is_next refl)
  where
    back : (m : Option Name) (ts : List Lexeme) → IsInto m ts → (ts ≡ []) ⊎ ((n : Name) × IsNameBehind Arrow n ts × (m ≡ Some n))
    back None ts spelled = inl spelled
    back (Some n) ts spelled = inr (n, spelled, refl)

into_starts : (m : Option Name) (ts : List Lexeme) → IsInto m ts → ((m ≡ None) × (ts ≡ [])) ⊎ StartsIn arrow_word ts
into_starts None ts spelled = inl (refl, spelled)
into_starts (Some n) ts spelled = inr (starts_joined arrow_word _ _ ts ((sign_starts Arrow).starts tt) spelled)

pub into_none : (tokens : List Lexeme) → IsOther Arrow tokens → IsRead IsInto arrow_word tokens None tokens
into_none tokens is_other = left_out arrow_word tokens None refl into_starts (stops_other Arrow tokens is_other)

pub sample_into : HasSample IsInto
sample_into = record { value = None; tokens = []; spelled = refl }

pub ends_into : Ends arrow_word IsAssigned closed
ends_into = ends_starting IsAssigned closed (λ w is_assign is_arrow. let e : Assign ≡ Arrow = sym is_assign ∙ is_arrow in cc) (record { starts = λ x ts spelled. starts_joined (λ w. w ≡ Assign) _ _ ts ((sign_starts Assign).starts tt) spelled })

pub def_makes : (place : Pos) (tokens : List Lexeme) → Makes (IsTyped ⊗ (IsInto ⊗ IsAssigned)) (IsBehind Def place) (λ v. item_at place (def (record { name = v.0.0; from = v.0.1; into = v.1.0; value = v.1.1 }))) closed tokens
def_makes place tokens = makes_of_made {to = λ v. record { name = v.0.0; from = v.0.1; into = v.1.0; value = v.1.1 }} (remade
    (λ v ts spelled. typed_into v.0.0 v.0.1 ((IsInto ⊗ IsAssigned) v.1) ts spelled)
    (λ d ts spelled. (((d.name, d.from), (d.into, d.value)), typed_back d.name d.from ((IsInto ⊗ IsAssigned) (d.into, d.value)) ts spelled, refl))) (made_makes (λ d. item_at place (def d)) IsDefItem)

pub sample_assigned : HasSample IsAssigned
sample_assigned = sample_as (λ (v : Unit {0} × X). v.1) (λ v ts spelled. spelled) (sample_pair (sample_sign Assign) sample_x)

-- An item is its first word and what stands behind it.

abbrev IsToken : Lexeme → List Lexeme → Type 0
IsToken t ts = ts ≡ t ∷ []

abbrev item_parts : Lexeme × Item → List Lexeme → Type 0
item_parts = Chained IsToken (λ t. IsBehind t.word t.place)

token_read : (t : Lexeme) (tokens rest : List Lexeme) → tokens ≡ t ∷ rest → IsRead IsToken closed tokens t rest
token_read t tokens rest here = record {
  part = t ∷ [];
  split = here;
  spelled = refl;
  only = λ more other after v as_rest same is stops.
      let first : t ∷ more ≡ v ∷ after = same ∙ ap (λ l. l ++ after) is in (cc, cc);
}

put : {B : Type 0} (form : B → List Lexeme → Type 0) (to : B → Item) (t : Lexeme) (w : Word) (i : Item) (ts : List Lexeme) → t.word ≡ w → ((b : B) → (IsAt w t.place ⌢ form b) ts → IsItem (to b) ts) → (IsToken t ⌢ Made to form i) ts → IsItem i ts
put form to t w i ts is into spelled = let made = spelled.at_back in
    subst (λ (j : Item). IsItem j ts) (sym made.is) (into made.of (record { front = spelled.front; back = spelled.back; split = spelled.split; at_front = (t, (spelled.at_front, is), refl); at_back = made.spelled }))

into_item : (t : Lexeme) (w : Word) (i : Item) (ts : List Lexeme) → t.word ≡ w → (IsToken t ⌢ IsBehind w t.place i) ts → IsItem i ts
into_item t TypeWord i ts is spelled = put IsTypeItem (λ b. item_at t.place (sorts b)) t TypeWord i ts is (λ b s. s) spelled
into_item t Tree i ts is spelled = put IsTreeItem (λ b. item_at t.place (tree b)) t Tree i ts is (λ b s. s) spelled
into_item t Lang i ts is spelled = put IsLangItem (λ b. item_at t.place (lang b)) t Lang i ts is (λ b s. s) spelled
into_item t Trans i ts is spelled = put IsTransItem (λ b. item_at t.place (trans b)) t Trans i ts is (λ b s. s) spelled
into_item t Def i ts is spelled = put IsDefItem (λ b. item_at t.place (def b)) t Def i ts is (λ b s. s) spelled
into_item t AssertTrue i ts is spelled = put IsA (asserted true t.place) t AssertTrue i ts is (λ b s. s) spelled
into_item t AssertFalse i ts is spelled = put IsA (asserted false t.place) t AssertFalse i ts is (λ b s. s) spelled
into_item t _ i ts is spelled = absurd spelled.at_back

taken : {B : Type 0} (w : Word) (form : B → List Lexeme → Type 0) (to : Pos → B → Item) (place : Pos) (b : B) (ts : List Lexeme) → ((p : Pos) (i : Item) (l : List Lexeme) → Made (to p) form i l → IsBehind w p i l) → (IsAt w place ⌢ form b) ts → (v : Lexeme × Item) × item_parts v ts × (to place b ≡ v.1)
taken w form to place b ts behind spelled = let at = spelled.at_front in let t = at.0 in (
  (t, to place b),
  record {
    front = spelled.front;
    back = spelled.back;
    split = spelled.split;
    at_front = at.1.0;
    at_back = subst (λ (v : Word). IsBehind v t.place (to place b) spelled.back) (sym at.1.1) (behind t.place (to place b) spelled.back (record { of = b; spelled = spelled.at_back; is = ap (λ p. to p b) at.2 }));
  },
  refl,
)

of_body : (b : Body) (place : Pos) (ts : List Lexeme) → IsBody b place ts → (v : Lexeme × Item) × item_parts v ts × (item_at place b ≡ v.1)
of_body (sorts b) place ts spelled = taken TypeWord IsTypeItem (λ p v. item_at p (sorts v)) place b ts (λ p i l made. made) spelled
of_body (tree b) place ts spelled = taken Tree IsTreeItem (λ p v. item_at p (tree v)) place b ts (λ p i l made. made) spelled
of_body (lang b) place ts spelled = taken Lang IsLangItem (λ p v. item_at p (lang v)) place b ts (λ p i l made. made) spelled
of_body (trans b) place ts spelled = taken Trans IsTransItem (λ p v. item_at p (trans v)) place b ts (λ p i l made. made) spelled
of_body (def b) place ts spelled = taken Def IsDefItem (λ p v. item_at p (def v)) place b ts (λ p i l made. made) spelled
of_body (assertion a) place ts spelled = by a.wanted a.claim spelled
  where
    by : (wanted : Bool) (claim : Claim) → (IsAt (assert_word wanted) place ⌢ IsA claim) ts → (v : Lexeme × Item) × item_parts v ts × (asserted wanted place claim ≡ v.1)
    by true claim s = taken AssertTrue IsA (asserted true) place claim ts (λ p i l made. made) s
    by false claim s = taken AssertFalse IsA (asserted false) place claim ts (λ p i l made. made) s

item_makes : (tokens : List Lexeme) → Makes item_parts IsItem (λ v. v.1) closed tokens
item_makes tokens = remade (λ v ts spelled. into_item v.0 v.0.word v.1 ts refl spelled) (λ i ts spelled. of_body i.body i.place ts spelled)

-- what was read behind the first word is the item's
pub item_reads : {Y : Type 0} (t : Lexeme) (w : Word) (tokens middle rest : List Lexeme) (view : Y → Item) (r : Result Y Stop) → tokens ≡ t ∷ middle → t.word ≡ w → Reads (IsBehind w t.place) closed middle rest view r → Reads IsItem closed tokens rest view r
item_reads t w tokens middle rest view (Ok x) here is read = as_read (item_makes _) (chained_read (λ v. ends_closed _ _) (token_read t _ _ here) (subst (λ (v : Word). IsRead (IsBehind v t.place) closed middle (view x) rest) (sym is) read))
item_reads t w tokens middle rest view (Err e) here is fails = as_fails _ (item_makes _) (chained_fails _ (λ v. ends_closed _ _) (token_read t _ _ here) (subst (λ (v : Word). Fails (IsBehind v t.place) closed middle (bad_of e rest)) (sym is) fails))

-- a type behind its first word
pub type_read : (t : Lexeme) (tokens middle rest : List Lexeme) (v : TypeItem) → tokens ≡ t ∷ middle → t.word ≡ TypeWord → IsRead IsTypeItem closed middle v rest → IsRead IsItem closed tokens (item_at t.place (sorts v)) rest
type_read t tokens middle rest v here is read = item_reads t TypeWord tokens middle rest (λ u. item_at t.place (sorts u)) (Ok v) here is (as_read (made_makes (λ u. item_at t.place (sorts u)) IsTypeItem) read)

pub type_fails : (t : Lexeme) (tokens middle rest : List Lexeme) (e : Stop) → tokens ≡ t ∷ middle → t.word ≡ TypeWord → Fails IsTypeItem closed middle (bad_of e rest) → Fails IsItem closed tokens (bad_of e rest)
type_fails t tokens middle rest e here is fails = item_reads {Y = TypeItem} t TypeWord tokens middle rest (λ u. item_at t.place (sorts u)) (Err e) here is (as_fails _ (made_makes (λ u. item_at t.place (sorts u)) IsTypeItem) fails)

-- the words with which items begin
abbrev pub IsItemWord : Word → Type 0
IsItemWord w = (place : Pos) × (i : Item) × (ts : List Lexeme) × IsBehind w place i ts

item_begins : AllStartIn IsItemWord IsItem
item_begins = record { starts = λ i ts spelled. begins ts (of_body i.body i.place ts spelled) }
  where
    begins : {i : Item} (ts : List Lexeme) → (v : Lexeme × Item) × item_parts v ts × (i ≡ v.1) → StartsIn IsItemWord ts
    begins ts parts = let s = parts.1 in starts_joined IsItemWord (IsToken parts.0.0) (λ l. IsBehind parts.0.0.word parts.0.0.place parts.0.1 l) ts (λ l is. subst (λ (m : List Lexeme). StartsIn IsItemWord m) (sym is) (parts.0.0.place, parts.0.1, s.back, s.at_back)) s

pub item_starts : AllStartIn anything IsItem
item_starts = record { starts = λ i ts spelled. starts_wider IsItemWord anything ts (λ w h. tt) (item_begins.starts i ts spelled) }

sample_item : HasSample IsItem
sample_item = sample_as (λ (v : Pos × Claim). asserted true v.0 v.1) (λ v ts spelled. spelled) (sample_pair (sample_at AssertTrue) sample_a)

-- another word begins none
pub item_refused : (tokens : List Lexeme) → Stops IsItemWord tokens → Fails IsItem closed tokens (Some tokens)
item_refused tokens stops = record { why = missing tokens sample_item (λ more other after i as_rest same spelled. elsewhere IsItemWord tokens more stops as_rest (subst (λ (l : List Lexeme). StartsIn IsItemWord l) (sym same) (starts_append IsItemWord other after (item_begins.starts i other spelled)))) }

pub stops_at_end : (tokens : List Lexeme) → tokens ≡ [] → Stops IsItemWord tokens
stops_at_end tokens ended = subst (λ (l : List Lexeme). Stops IsItemWord l) (sym ended) tt

pub stops_at_first : (t : Lexeme) (tokens rest : List Lexeme) → tokens ≡ t ∷ rest → (IsItemWord t.word → ⊥) → Stops IsItemWord tokens
stops_at_first t tokens rest here none = subst (λ (l : List Lexeme). Stops IsItemWord l) (sym here) none

pub no_item_word : (w : Word) → (w ≡ TypeWord → ⊥) → (w ≡ Tree → ⊥) → (w ≡ Lang → ⊥) → (w ≡ Trans → ⊥) → (w ≡ Def → ⊥) → (w ≡ AssertTrue → ⊥) → (w ≡ AssertFalse → ⊥) → IsItemWord w → ⊥
no_item_word TypeWord a b c d e f g is = a refl
no_item_word Tree a b c d e f g is = b refl
no_item_word Lang a b c d e f g is = c refl
no_item_word Trans a b c d e f g is = d refl
no_item_word Def a b c d e f g is = e refl
no_item_word AssertTrue a b c d e f g is = f refl
no_item_word AssertFalse a b c d e f g is = g refl
no_item_word _ a b c d e f g is = is.3

-- A program.

pub some_token : (tokens : List Lexeme) (count : ℕ) → count ≡ length tokens → 0 < count → StartsIn anything tokens
some_token [] count is_count some = absurd (omega (arith, is_count, some))
some_token (t ∷ ts) count is_count some = tt

-- before the first item
pub program_begins : {tokens : List Lexeme} (none : List Item) → none ≡ [] → IsPartWay IsProgram (Many IsItem) anything (λ b. none ++ b) tokens tokens
program_begins {tokens} none is_none = subst (λ (l : List Item). IsPartWay IsProgram (Many IsItem) anything (λ b. l ++ b) tokens tokens) (sym is_none) (record { read = λ b end more. more; fails = λ bad more. more })

pub program_ends : {tokens rest : List Lexeme} (all : List Item) → IsPartWay IsProgram (Many IsItem) anything (λ b. all ++ b) tokens rest → rest ≡ [] → IsRead IsProgram anything tokens all rest
program_ends all so_far ended = many_ends IsItem (λ l. l) all item_starts so_far (subst (λ (l : List Lexeme). Stops anything l) (sym ended) tt)

pub no_token : (tokens : List Lexeme) (count : ℕ) → count ≡ length tokens → count ≤ 0 → tokens ≡ []
no_token [] count is_count none = refl
no_token (t ∷ ts) count is_count none = absurd (omega (arith, is_count, none))
