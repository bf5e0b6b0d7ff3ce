-- What was built for names stays, and grows.
use Rattle.std.proofs.Common.{◌≡◌, inl, inr, ℕ, List, Some, sym, subst}
use Rattle.std.specs.Prelude.{Result, Ok, Err, IfOk, IfErr, IsErrAnd}
use Rattle.model_program.specs.Syntax.{Name}
use Rattle.model_grammar.specs.Syntax.{X, named, one, two, literal, Item}
use Rattle.model_names.specs.Kinds.{Kind, language, transformation, a_tree, taken_by_one, taken_first, taken_second, type_of}
use Rattle.sta_core.specs.declared.Lang.{Lang}
use Rattle.record_label.specs.Rows.{RowAtom}
use Rattle.fast_build.specs.Automaton.{IsAutomatonOf}
use Rattle.fast_build.specs.Carried.{IsBuiltFor}
use Rattle.fast_eval.specs.declared.built.Built.{Built}
use Rattle.fast_eval.specs.Table.{HasBuilt, IsGrown, IsBuiltNamed}
use Rattle.fast_eval.specs.Forms.{EachName, AreNamed, IsReadyName, AreReady, AreKnown, IsTransKnown}
use Rattle.fast_eval.proofs.NamesBuilt.{built_by_rules}

-- ---- names

module _ (P Q : Kind → List ℕ → Type 0) (to : (kind : Kind) (name : List ℕ) → P kind name → Q kind name) where
  pub each_name_weaker : (kind : Kind) (x : X) → EachName P kind x → EachName Q kind x
  each_name_weaker kind (named n) each = to kind n.text each
  each_name_weaker kind (one op place x) each = each_name_weaker (taken_by_one op) x each
  each_name_weaker kind (two op place x y) each = (each_name_weaker (taken_first op) x each.0, each_name_weaker (taken_second op) y each.1)
  each_name_weaker kind (literal name labels xs) each = tt

-- ---- what was built

pub none_more : (b : Built) → IsGrown b b
none_more b = record { languages = λ name e. e; transformations = λ name e. e }

pub more_twice : (old mid new : Built) → IsGrown old mid → IsGrown mid new → IsGrown old new
more_twice old mid new g h = record { languages = λ name e. h.languages name (g.languages name e); transformations = λ name e. h.transformations name (g.transformations name e) }

-- what is built by the rules of a name is built for it
pub built_for_name : (items : List Item) (name : List ℕ) (l : Lang RowAtom) → IsAutomatonOf items name l.sta → ((n : Name) (type : List ℕ) → n.text ≡ name → type_of items (named n) ≡ Some type → IsBuiltFor items n type l.sta l.state) → IsBuiltNamed items name l
built_for_name items name l is carried n type same on = built_by_rules items n type l on (subst (λ text. IsAutomatonOf items text l.sta) (sym same) is) (carried n type same on)

-- what an answer that is handed on shows
pub on_err : {T E : Type 0} (Q : E → Type 0) (r : Result T E) (e : E) → IsErrAnd r (λ y. y ≡ e) → Q e → IfErr r Q
on_err Q (Ok x) e h q = absurd h
on_err Q (Err y) e h q = subst Q (sym h) q

-- ---- names that are known, once more have languages

-- by kind
pub built_grown : (old new : Built) → IsGrown old new → (kind : Kind) (name : List ℕ) → HasBuilt kind old name → HasBuilt kind new name
built_grown old new grown language name had = grown.languages name had
built_grown old new grown transformation name had = grown.transformations name had
built_grown old new grown a_tree name had = tt

pub ready_grown : (items : List Item) (old new : Built) → IsGrown old new → (kind : Kind) (name : List ℕ) → IsReadyName kind items old name → IsReadyName kind items new name
ready_grown items old new grown kind name known = elim known [ inl own ↦ inl own | inr had ↦ inr (built_grown old new grown kind name had) ]

pub named_grown : (kind : Kind) (old new : Built) → IsGrown old new → (x : X) → AreNamed kind old x → AreNamed kind new x
named_grown kind old new grown = each_name_weaker (λ k name. HasBuilt k old name) (λ k name. HasBuilt k new name) (built_grown old new grown) kind

pub all_ready_grown : (kind : Kind) (items : List Item) (old new : Built) → IsGrown old new → (x : X) → AreReady kind items old x → AreReady kind items new x
all_ready_grown kind items old new grown = each_name_weaker (λ k name. IsReadyName k items old name) (λ k name. IsReadyName k items new name) (ready_grown items old new grown) kind

pub known_grown : (items : List Item) (old new : Built) → IsGrown old new → (x : X) → AreKnown items old x → AreKnown items new x
known_grown = all_ready_grown language

pub trans_known_grown : (items : List Item) (old new : Built) → IsGrown old new → (x : X) → IsTransKnown items old x → IsTransKnown items new x
trans_known_grown = all_ready_grown transformation

-- two facts of an answer together
pub if_ok_both : {T E : Type 0} (r : Result T E) (P Q R : T → Type 0) → ((x : T) → P x → Q x → R x) → IfOk r P → IfOk r Q → IfOk r R
if_ok_both (Ok x) P Q R f p q = f x p q
if_ok_both (Err e) P Q R f p q = tt
