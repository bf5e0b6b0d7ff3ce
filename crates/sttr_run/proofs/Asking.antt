-- What is asked by lists of demands.
use Rattle.std.proofs.Common.{ℕ, ◌≡◌, ◌⊎◌, ◌↔◌, inl, inr, List, [], ◌∷◌, ◌++◌, map, Contains, sym, subst, ap, ◌∙◌}
use Rattle.std.specs.Prelude.{IfOk, OnOk, Result, Ok, Err}
use Rattle.std.proofs.lemmas.List.{map-append}
use Rattle.model_sttr.specs.Transducer.{identity, run}
use Rattle.sttr_theory.specs.Triples.{LookName, of_second, middle, asked_by}
use Rattle.sttr_run.specs.Drafts.{name_of, IsAskedIn, Asks}
use Rattle.sttr_run.specs.declared.drafts.Demand.{Demand}
use Rattle.sttr_run.proofs.Members.{nil_out, push_out, push_old, push_new}
use Rattle.sttr_theory.proofs.Members.{here, in_single, in_either, in_left, in_right}

pub nothing_asked : (j : ℕ) (n : LookName) → IsAskedIn [] j n → ⊥
nothing_asked j n (d, at, c, e) = nil_out d at

pub asked_more : (ds : List Demand) (d : Demand) (j : ℕ) (n : LookName) → IsAskedIn (ds ++ d ∷ []) j n ↔ (IsAskedIn ds j n ⊎ ((d.child ≡ j) × (name_of d.ask ≡ n)))
asked_more ds d j n = (
  λ a. elim (push_out ds d a.0 a.1) [ inl old ↦ inl (a.0, old, a.2, a.3) | inr is ↦ inr (ap (λ x. x.child) is ∙ a.2, ap (λ x. name_of x.ask) is ∙ a.3) ],
  λ s. elim s [ inl a ↦ (a.0, push_old ds d a.0 a.1, a.2, a.3) | inr e ↦ (d, push_new ds d, e.0, e.1) ],
)

pub asked_one : (d : Demand) (j : ℕ) (n : LookName) → IsAskedIn (d ∷ []) j n ↔ ((d.child ≡ j) × (name_of d.ask ≡ n))
asked_one d j n = (
  λ a. let is = in_single d a.0 a.1 in (ap (λ x. x.child) is ∙ a.2, ap (λ x. name_of x.ask) is ∙ a.3),
  λ e. (d, here d [], e.0, e.1),
)

pub asks_start : (old : List Demand) → Asks old old []
asks_start old j n = (λ a. inl a, λ s. elim s [ inl a ↦ a | inr b ↦ absurd (nothing_asked j n b) ])

-- a demand that is there already
pub asks_same : (old : List Demand) (d : Demand) → IsAskedIn old d.child (name_of d.ask) → Asks old old (d ∷ [])
asks_same old d is j n = (
  λ a. inl a,
  λ s. elim s [
    | inl a ↦ a
    | inr b ↦ (let e = (asked_one d j n).0 b in subst (λ m. IsAskedIn old j m) e.1 (subst (λ i. IsAskedIn old i (name_of d.ask)) e.0 is))
  ],
)

-- or a copy of it comes
pub asks_copy : (old : List Demand) (d e : Demand) → e.child ≡ d.child → name_of e.ask ≡ name_of d.ask → Asks (old ++ e ∷ []) old (d ∷ [])
asks_copy old d e same name j n = (
  λ a. elim ((asked_more old e j n).0 a) [ inl b ↦ inl b | inr m ↦ inr ((asked_one d j n).1 (sym same ∙ m.0, sym name ∙ m.1)) ],
  λ s. elim s [
    | inl a ↦ (asked_more old e j n).1 (inl a)
    | inr b ↦ (let m = (asked_one d j n).0 b in (asked_more old e j n).1 (inr (same ∙ m.0, name ∙ m.1)))
  ],
)

-- more come behind some
pub asks_more : (new mid old ds es : List Demand) → Asks mid old ds → Asks new mid es → Asks new old (ds ++ es)
asks_more new mid old ds es f g j n = (
  λ a. elim ((g j n).0 a) [
    | inl m ↦ elim ((f j n).0 m) [ inl o ↦ inl o | inr d ↦ inr (d.0, in_left ds es d.0 d.1, d.2, d.3) ]
    | inr e ↦ inr (e.0, in_right ds es e.0 e.1, e.2, e.3)
  ],
  λ s. elim s [
    | inl o ↦ (g j n).1 (inl ((f j n).1 (inl o)))
    | inr a ↦ elim (in_either ds es a.0 a.1) [ inl d ↦ (g j n).1 (inl ((f j n).1 (inr (a.0, d, a.2, a.3)))) | inr e ↦ (g j n).1 (inr (a.0, e, a.2, a.3)) ]
  ],
)

-- two lists come to none
pub asked_both : (new mid ds es : List Demand) → Asks mid [] ds → Asks new mid es → Asks new ds es
asked_both new mid ds es f g j n = (
  λ a. elim ((g j n).0 a) [
    | inl m ↦ elim ((f j n).0 m) [ inl o ↦ absurd (nothing_asked j n o) | inr d ↦ inl d ]
    | inr e ↦ inr e
  ],
  λ s. elim s [ inl d ↦ (g j n).1 (inl ((f j n).1 (inr d))) | inr e ↦ (g j n).1 (inr e) ],
)

-- the states are asked of the child
abbrev pub AsksStates : List Demand → ℕ → List ℕ → Type 0
AsksStates ds child ts = (j : ℕ) (n : LookName) → IsAskedIn ds j n ↔ ((child ≡ j) × Contains (asked_by identity ts) n)

pub states_none : (child : ℕ) → AsksStates [] child []
states_none child j n = (λ a. absurd (nothing_asked j n a), λ b. absurd (nil_out n b.1))

pub states_more : (ds : List Demand) (child s : ℕ) (ts : List ℕ) (d : Demand) → AsksStates ds child ts → d.child ≡ child → name_of d.ask ≡ of_second s → AsksStates (ds ++ d ∷ []) child (ts ++ s ∷ [])
states_more ds child s ts d inv same name j n = (
  λ a. elim ((asked_more ds d j n).0 a) [
    | inl b ↦ (let x = (inv j n).0 b in (x.0, subst (λ ns. Contains ns n) (sym (map-append of_second ts (s ∷ []))) (push_old (map of_second ts) (of_second s) n x.1)))
    | inr m ↦ (sym same ∙ m.0, subst (λ ns. Contains ns n) (sym (map-append of_second ts (s ∷ []))) (subst (Contains (map of_second ts ++ of_second s ∷ [])) (sym name ∙ m.1) (push_new (map of_second ts) (of_second s))))
  ],
  λ b. elim (push_out (map of_second ts) (of_second s) n (subst (λ ns. Contains ns n) (map-append of_second ts (s ∷ [])) b.1)) [
    | inl o ↦ (asked_more ds d j n).1 (inl ((inv j n).1 (b.0, o)))
    | inr e ↦ (asked_more ds d j n).1 (inr (same ∙ b.0, name ∙ e))
  ],
)

-- an output is asked of the child
pub output_asked : (child q : ℕ) (all : List ℕ) (ds : List Demand) (d : Demand) → ds ≡ d ∷ [] → d.child ≡ child → name_of d.ask ≡ middle q all → (j : ℕ) (n : LookName) → IsAskedIn ds j n ↔ ((child ≡ j) × Contains (asked_by (run q) all) n)
output_asked child q all ds d is same name j n = (
  λ a. let m = (asked_one d j n).0 (subst (λ xs. IsAskedIn xs j n) is a) in (sym same ∙ m.0, subst (Contains (middle q all ∷ [])) (sym name ∙ m.1) (here (middle q all) [])),
  λ b. subst (λ xs. IsAskedIn xs j n) (sym is) ((asked_one d j n).1 (same ∙ b.0, name ∙ in_single (middle q all) n b.1)),
)

pub none_asked : (child : ℕ) (ds : List Demand) → ds ≡ [] → (j : ℕ) (n : LookName) → IsAskedIn ds j n ↔ ((child ≡ j) × Contains [] n)
none_asked child ds is j n = (λ a. absurd (nothing_asked j n (subst (λ xs. IsAskedIn xs j n) is a)), λ b. absurd (nil_out n b.1))

-- what a result is said of follows
pub ok_map : {X E : Type 0} (P Q : X → Type 0) (r : Result X E) → ((x : X) → P x → Q x) → IfOk r P → IfOk r Q
ok_map P Q (Ok x) f h = f x h
ok_map P Q (Err e) f h = tt

pub on_ok_map : {X E : Type 0} (P Q : Type 0) (r : Result X E) → (P → Q) → OnOk r P → OnOk r Q
on_ok_map P Q (Ok x) f h = f h
on_ok_map P Q (Err e) f h = tt
