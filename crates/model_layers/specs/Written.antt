-- What is built for a name by the rules that are written: the languages and transformations that it reaches are the states.
use Rattle.std.specs.Prelude.{◌≡◌, ◌⊎◌, ◌↔◌, ◌<◌, ℕ, Bool, true, List, Some, length, slice_get}
use Rattle.std.specs.List.{Contains}
use Rattle.model_tree.specs.Label.{Label}
use Rattle.model_tree.specs.Tree.{LabelTree}
use Rattle.model_sta.specs.Automaton.{Rule, rules_of, rule_applies}
use Rattle.model_sta.specs.Pairwise.{Pairwise}
use Rattle.model_sta.specs.Operations.{Auto, Has, Alike}
use Rattle.model_sttr.specs.Transducer.{run, OutRule, Sttr, Trans, out_rules, Gives, GivesSame}
use Rattle.model_sttr.specs.Guards.{IsMapOf, MakesAlike}
use Rattle.model_sttr.specs.Operations.{AlikePairs}
use Rattle.model_program.specs.Syntax.{Name}
use Rattle.model_grammar.specs.Syntax.{Expr, named, Item}
use Rattle.model_grammar.specs.Syntax as written
use Rattle.model_names.specs.Declared.{out_rules_of}
use Rattle.model_meaning.specs.Types.{input_of}
use Rattle.model_meaning.specs.Meaning.{IsInLanguage, IsRelated, Applies}
use Rattle.model_meaning.specs.Reached.{Reaches}
use Rattle.model_run.specs.Parts.{LanguagePart, IsInPart, IsOn, IsFrom, IsPart}
use Rattle.model_run.specs.Seen.{listed, list_label, tested, guard_truth, fields_at, IsTest, AreLabels, IsLabelOf}
use Rattle.model_layers.specs.Carries.{IsTyped, Carries, CarriesTrans}
use Rattle.model_layers.specs.Seen.{IsSeen, IsSeenTrans}

module _ (items : List Item) (n : Name) where
  -- each state has the language of a name that the name reaches
  abbrev pub AreLanguagesReached : List ℕ → List (List (Rule Label)) → Type 0
  AreLanguagesReached type rules =
      (q : ℕ) → q < length rules → (m : Name) × Reaches items n.text m.text × IsOn items (named m) type × Alike (IsTyped items type) (Has rules q) (IsInLanguage items (named m))

  pub record IsLanguageFor (type : List ℕ) (a : Auto Label) : Type 0 where
    pub is_on : IsOn items (named n) type
    pub in_range : a.start < length a.rules
    pub means : Alike (IsTyped items type) (Has a.rules a.start) (IsInLanguage items (named n))
    pub states : AreLanguagesReached type a.rules

  pub record IsTransformationFor (from into : List ℕ) (f : Trans Label) : Type 0 where
    pub goes : IsFrom items (named n) from into
    pub in_range : f.start < length f.sttr.rules
    pub means : AlikePairs (IsTyped items from) (Gives f.sttr (run f.start)) (IsRelated items (named n))
    pub states : (q : ℕ) → q < length f.sttr.rules → (m : Name) × Reaches items n.text m.text × IsFrom items (named m) from into × AlikePairs (IsTyped items from) (Gives f.sttr (run q)) (IsRelated items (named m))
    pub looks : AreLanguagesReached from f.sttr.looks
    pub typed : (q : ℕ) (t u : LabelTree) → q < length f.sttr.rules → IsTyped items from t → Gives f.sttr (run q) t u → IsTyped items into u
    pub gives_same : GivesSame f.sttr → from ≡ into

  -- the guard says of each label of the type what a written one says; one that isn't written always holds
  abbrev pub IsWrittenGuard : List ℕ → (Label → Bool) → Type 0
  IsWrittenGuard type guard =
      ((l : Label) → IsLabelOf items type l → guard l ≡ true)
      ⊎ ((e : Expr) × IsTest items n type e × ((l : Label) → IsLabelOf items type l → guard l ≡ guard_truth (tested (fields_at items type) e) l))

  abbrev pub AreWrittenGuards : List ℕ → List (List (Rule Label)) → Type 0
  AreWrittenGuards type rules = (q : ℕ) (r : Rule Label) → Contains (rules_of rules q) r → IsWrittenGuard type r.guard

  -- and each map makes of each label what written labels make
  pub record IsWrittenTrans (from into : List ℕ) (f : Sttr Label) : Type 0 where
    pub goes : IsFrom items (named n) from into
    pub looks : AreWrittenGuards from f.looks
    pub guards : (q : ℕ) (r : OutRule Label) → Contains (out_rules f q) r → IsWrittenGuard from r.rule.guard
    pub maps : (k : Label → Label) → IsMapOf f k
        → (labels : List Expr) × AreLabels items n from into labels × MakesAlike (IsLabelOf items from) k (list_label (listed (fields_at items from) (fields_at items into) labels))
    pub makes : (k : Label → Label) → IsMapOf f k → (l : Label) → IsLabelOf items from l → IsLabelOf items into (k l)
    pub gives_same : GivesSame f → from ≡ into

  -- what is built so is carried, and seen
  pub record NamesAreCarried : Type 0 where
    pub language : (type : List ℕ) (a : Auto Label) → IsLanguageFor type a → Carries items (named n) type a
    pub transformation : (from into : List ℕ) (f : Trans Label) → IsTransformationFor from into f → CarriesTrans items (named n) from into f

  pub record NamesAreSeen : Type 0 where
    pub language : (type : List ℕ) (rules : List (List (Rule Label))) → AreWrittenGuards type rules → IsSeen items (named n) type rules
    pub transformation : (from into : List ℕ) (f : Sttr Label) → IsWrittenTrans from into f → IsSeenTrans items (named n) from into f

-- ---- two rules

-- the rule applies to the trees of the type to which the written one does
abbrev pub AppliesAs : List Item → List ℕ → Sttr Label → Name → OutRule Label → written.OutRule → Type 0
AppliesAs items from f m r w = (t : LabelTree) → IsTyped items from t → (rule_applies f.looks t r.rule ≡ true) ↔ Applies items (input_of items m.text) w.rule t

-- both rules apply to the tree
abbrev pub BothApply : Sttr Label → OutRule Label → OutRule Label → LabelTree → Type 0
BothApply f r s t = (rule_applies f.looks t r.rule ≡ true) × (rule_applies f.looks t s.rule ≡ true)

-- Where the rules of a state are those of a transformation that the name reaches, in the order in which they are written, the
-- trees to which two of them apply are a part of the name.
abbrev pub TwoRulesArePart : Type 0
TwoRulesArePart =
    (items : List Item) (n m : Name) (from into : List ℕ) (f : Sttr Label) (q : ℕ) → Reaches items n.text m.text → IsFrom items (named m) from into → Pairwise (AppliesAs items from f m) (out_rules f q) (out_rules_of items m.text)
    → (i j : ℕ) (r s : OutRule Label) → i < j → slice_get (out_rules f q) i ≡ Some r → slice_get (out_rules f q) j ≡ Some s
    → (d : LanguagePart) × IsPart items (named n) from d × Alike (IsTyped items from) (BothApply f r s) (IsInPart items d)
