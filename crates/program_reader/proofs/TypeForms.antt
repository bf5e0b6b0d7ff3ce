-- Of what types are made.
use Rattle.std.specs.Str.Parse.{digits_value}
use Rattle.std.proofs.Common.{◌≡◌, ℤ, pos, List, [], refl, sym, ◌∙◌, Result, Ok, Err, ◌⊎◌, inl, inr}
use Rattle.model_program.specs.declared.Word.{Word}
use Rattle.model_program.specs.declared.Word.TheVariants.{Id, RoundOpen, RoundClose, SquareOpen, SquareClose, CurlyOpen, CurlyClose, Colon}
use Rattle.model_program.specs.Lexeme.{Lexeme}
use Rattle.model_program.specs.Syntax.{Name, FieldItem, CtorItem}
use Rattle.model_program.specs.Joined.{IsNext, IsOther, ◌⊗◌}
use Rattle.read_forms.specs.Reads.{IsRead, StartsIn, closed}
use Rattle.model_program.specs.Grammar.{IsWord, IsSign, sign, IsName, IsNumber, IsCtor, sort_text, IsSort, IsField, AreFields, AreFieldsOrNone, square_word, AreCtors, IsTypeItem}
use Rattle.read_forms.specs.Parts.{Ends, HasSample, AllStartIn}
use Rattle.read_forms.proofs.Forms.{Makes, as_read, as_fails, closed_read, closed_fails, sample_pair, sample_as, remade, stands, left_out, ends_closed, ends_starting, starts_joined, starts_next, stops_other}
use Rattle.read_forms.proofs.Words.{sample_word, sample_sign, sign_starts}
use Rattle.read_forms.proofs.Lists.{to_left, to_right}
use Rattle.label_reader.specs.declared.lists.Between.TheVariants.{Comma}
use Rattle.label_reader.specs.Lists.{IsItem}
use Rattle.label_reader.specs.declared.stop.Stop.{Stop}
use Rattle.label_reader.specs.Results.{Reads}
use Rattle.label_reader.proofs.Listed.{named_item, sample_some_to}
use Rattle.label_reader.proofs.Names.{sample_name, name_starts}
use Rattle.label_reader.proofs.Primaries.{sample_numeral}
use Rattle.program_reader.specs.Names.{IsNameTo}
use Rattle.program_reader.proofs.NameForms.{sample_name_to}

pub sort_makes : (goes_on : Word → Type 0) (tokens : List Lexeme) → Makes (IsWord Id) IsSort (λ t. record { text = sort_text t.text; place = t.place }) goes_on tokens
sort_makes goes_on tokens = remade (λ t ts is_word. (t, is_word, refl)) (λ n ts is_sort. (is_sort.0, is_sort.1, is_sort.2))

pub sample_sort : HasSample IsSort
sample_sort = sample_as (λ t. record { text = sort_text t.text; place = t.place }) (λ t ts is_word. (t, is_word, refl)) (sample_word Id)

pub sample_number : HasSample IsNumber
sample_number = sample_as (λ t. pos (digits_value 10 t.text)) (λ t ts spelled. (t, spelled.0, spelled.1, refl)) sample_numeral

-- the number and the closing parenthesis
pub rank_makes : (tokens : List Lexeme) → Makes (IsNumber ⊗ IsSign RoundClose) (IsNumber ⊗ IsSign RoundClose) (λ v. v) closed tokens
rank_makes tokens = remade (λ v ts spelled. spelled) (λ v ts spelled. (v, spelled, refl))

abbrev pub ctor_of : Name × (ℤ × Unit {0}) → CtorItem
ctor_of v = record { name = v.0; rank = v.1.0 }

ctor_into : (v : Name × (ℤ × Unit {0})) (ts : List Lexeme) → (IsNameTo RoundOpen ⊗ (IsNumber ⊗ IsSign RoundClose)) v ts → IsCtor (ctor_of v) ts
ctor_into v ts spelled = to_right (IsName v.0) (sign RoundOpen) ((IsNumber ⊗ IsSign RoundClose) v.1) ts spelled

pub ctor_makes : (goes_on : Word → Type 0) (tokens : List Lexeme) → Makes (IsNameTo RoundOpen ⊗ (IsNumber ⊗ IsSign RoundClose)) IsCtor ctor_of goes_on tokens
ctor_makes goes_on tokens = remade ctor_into (λ c ts spelled. ((c.name, (c.rank, tt)), to_left (IsName c.name) (sign RoundOpen) ((IsNumber ⊗ IsSign RoundClose) (c.rank, tt)) ts spelled, refl))

pub sample_rank : HasSample (IsNumber ⊗ IsSign RoundClose)
sample_rank = sample_pair sample_number (sample_sign RoundClose)

pub sample_ctor : HasSample IsCtor
sample_ctor = sample_as ctor_of ctor_into (sample_pair (sample_name_to RoundOpen) sample_rank)

pub ctor_starts : AllStartIn (λ w. w ≡ Id) IsCtor
ctor_starts = record { starts = λ c ts spelled. starts_joined (λ w. w ≡ Id) _ _ ts (name_starts.starts c.name) spelled }

pub ctor_item : IsItem Comma CurlyClose IsCtor closed
ctor_item = named_item Comma CurlyClose sample_ctor ctor_starts (λ h. cc) (λ h. cc, λ h. cc) (ends_closed _ closed)

pub sample_ctors : HasSample AreCtors
sample_ctors = sample_as (λ (v : Unit {0} × List CtorItem). v.1) (λ v ts spelled. spelled) (sample_pair (sample_sign CurlyOpen) (sample_some_to Comma IsCtor CurlyClose sample_ctor))

abbrev pub field_of : Name × Name → FieldItem
field_of v = record { name = v.0; sort = v.1 }

field_into : (v : Name × Name) (ts : List Lexeme) → (IsNameTo Colon ⊗ IsSort) v ts → IsField (field_of v) ts
field_into v ts spelled = to_right (IsName v.0) (sign Colon) (IsSort v.1) ts spelled

pub field_makes : (goes_on : Word → Type 0) (tokens : List Lexeme) → Makes (IsNameTo Colon ⊗ IsSort) IsField field_of goes_on tokens
field_makes goes_on tokens = remade field_into (λ f ts spelled. ((f.name, f.sort), to_left (IsName f.name) (sign Colon) (IsSort f.sort) ts spelled, refl))

pub field_starts : AllStartIn (λ w. w ≡ Id) IsField
field_starts = record { starts = λ f ts spelled. starts_joined (λ w. w ≡ Id) _ _ ts (name_starts.starts f.name) spelled }

sample_field : HasSample IsField
sample_field = sample_as field_of field_into (sample_pair (sample_name_to Colon) sample_sort)

pub field_item : IsItem Comma SquareClose IsField closed
field_item = named_item Comma SquareClose sample_field field_starts (λ h. cc) (λ h. cc, λ h. cc) (ends_closed _ closed)

pub fields_make : (tokens : List Lexeme) → IsNext SquareOpen tokens → Makes AreFields AreFieldsOrNone (λ fs. fs) square_word tokens
fields_make tokens is_next = stands tokens (λ fs ts spelled. inr spelled) (λ fs ts spelled. back fs ts spelled) (starts_next SquareOpen square_word tokens is_next refl)
  where
    back : (fs : List FieldItem) (ts : List Lexeme) → AreFieldsOrNone fs ts → (ts ≡ []) ⊎ ((gs : List FieldItem) × AreFields gs ts × (fs ≡ gs))
    back fs ts (inl none) = inl none.1
    back fs ts (inr spelled) = inr (fs, spelled, refl)

fields_start : (fs : List FieldItem) (ts : List Lexeme) → AreFieldsOrNone fs ts → ((fs ≡ []) × (ts ≡ [])) ⊎ StartsIn square_word ts
fields_start fs ts (inl none) = inl none
fields_start fs ts (inr spelled) = inr (starts_joined square_word _ _ ts ((sign_starts SquareOpen).starts tt) spelled)

pub fields_none : (tokens : List Lexeme) → IsOther SquareOpen tokens → IsRead AreFieldsOrNone square_word tokens [] tokens
fields_none tokens is_other = left_out square_word tokens [] (inl (refl, refl)) fields_start (stops_other SquareOpen tokens is_other)

-- fields that are there
pub fields_read : {Y : Type 0} (tokens rest : List Lexeme) (view : Y → List FieldItem) (r : Result Y Stop) → IsNext SquareOpen tokens → Reads AreFields closed tokens rest view r → Reads AreFieldsOrNone square_word tokens rest view r
fields_read tokens rest view (Ok x) is_next read = as_read (fields_make _ is_next) (closed_read read)
fields_read tokens rest view (Err e) is_next fails = as_fails _ (fields_make _ is_next) (closed_fails _ fails)

pub sample_fields : HasSample AreFieldsOrNone
sample_fields = record { value = []; tokens = []; spelled = inl (refl, refl) }

pub ends_fields : Ends square_word AreCtors closed
ends_fields = ends_starting AreCtors closed (λ w is_curly is_square. let e : CurlyOpen ≡ SquareOpen = sym is_curly ∙ is_square in cc)
    (record { starts = λ cs ts spelled. starts_joined (λ w. w ≡ CurlyOpen) _ _ ts ((sign_starts CurlyOpen).starts tt) spelled })

abbrev pub type_parts : Name × (List FieldItem × List CtorItem) → List Lexeme → Type 0
type_parts = IsName ⊗ (AreFieldsOrNone ⊗ AreCtors)

pub type_makes : (goes_on : Word → Type 0) (tokens : List Lexeme) → Makes type_parts IsTypeItem (λ v. record { name = v.0; fields = v.1.0; ctors = v.1.1 }) goes_on tokens
type_makes goes_on tokens = remade (λ v ts spelled. spelled) (λ t ts spelled. ((t.name, (t.fields, t.ctors)), spelled, refl))

pub sample_type : HasSample IsTypeItem
sample_type = sample_as (λ (v : Name × (List FieldItem × List CtorItem)). record { name = v.0; fields = v.1.0; ctors = v.1.1 }) (λ v ts spelled. spelled) (sample_pair sample_name (sample_pair sample_fields sample_ctors))
