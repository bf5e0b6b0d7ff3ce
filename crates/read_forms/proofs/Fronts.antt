-- How a form is read front by front.
use Rattle.std.proofs.Common.{◌≡◌, List, [], ◌∷◌, ◌++◌, refl, sym, ap, ◌∙◌, subst, append-nil, Option, Some, None}
use Rattle.model_program.specs.declared.Word.{Word}
use Rattle.model_program.specs.Lexeme.{Lexeme}
use Rattle.model_program.specs.Joined.{◌⊗◌}
use Rattle.read_forms.specs.Reads.{GoesOnAs, IsRead, IsRefused, Fails, closed}
use Rattle.read_forms.specs.Fronts.{Leaves, Done, Made, Through}
use Rattle.read_forms.specs.Parts.{Ends, HasSample}
use Rattle.read_forms.proofs.Forms.{Makes, goes_on_behind, stops_closed, regroup}

-- what goes on as the tokens behind a front, behind that front
further : {rest : List Lexeme} (behind part more : List Lexeme) → rest ≡ part ++ behind → GoesOnAs behind more → GoesOnAs rest (part ++ more)
further behind part more split as_behind = subst (λ (m : List Lexeme). GoesOnAs m (part ++ more)) (sym split) (goes_on_behind part behind more as_behind)

-- two fronts, one behind the other
both : {tokens middle : List Lexeme} (a b rest : List Lexeme) → tokens ≡ a ++ middle → middle ≡ b ++ rest → tokens ≡ (a ++ b) ++ rest
both a b rest first second = first ∙ ap (λ l. a ++ l) second ∙ sym (regroup a b rest)

-- What is left is read, and so is the whole.
pub left_read : {A : Type 0} {whole left : A → List Lexeme → Type 0} {goes_on : Word → Type 0} {tokens rest behind : List Lexeme} {a : A} → Leaves whole left goes_on tokens rest → IsRead left goes_on rest a behind → IsRead whole goes_on tokens a behind
left_read {a = a} leaves read = record {
  part = leaves.part ++ read.part;
  split = both leaves.part read.part _ leaves.split read.split;
  spelled = leaves.into a read.part read.spelled;
  only = λ more other after w as_behind same spelled stops.
      let l = leaves.back (read.part ++ more) other after w (further _ read.part more read.split as_behind) (sym (regroup leaves.part read.part more) ∙ same) spelled stops in
      read.only more l.part after w as_behind l.behind l.spelled stops;
}

left_refused : {A : Type 0} {whole left : A → List Lexeme → Type 0} {goes_on : Word → Type 0} {tokens rest bad : List Lexeme} → Leaves whole left goes_on tokens rest → IsRefused left goes_on rest bad → IsRefused whole goes_on tokens bad
left_refused {whole = whole} leaves refused = record {
  part = leaves.part ++ refused.part;
  split = both leaves.part refused.part _ leaves.split refused.split;
  value = refused.value;
  later = refused.later;
  begins = subst (λ (l : List Lexeme). whole refused.value l) (sym (regroup leaves.part refused.part refused.later)) (leaves.into refused.value (refused.part ++ refused.later) refused.begins);
  none = λ more other after w as_bad same spelled stops.
      let l = leaves.back (refused.part ++ more) other after w (further _ refused.part more refused.split as_bad) (sym (regroup leaves.part refused.part more) ∙ same) spelled stops in
      refused.none more l.part after w as_bad l.behind l.spelled stops;
}

-- What is left is refused, and so is the whole.
pub left_fails : {A : Type 0} {whole left : A → List Lexeme → Type 0} {goes_on : Word → Type 0} {tokens rest : List Lexeme} (bad : Option (List Lexeme)) → Leaves whole left goes_on tokens rest → Fails left goes_on rest bad → Fails whole goes_on tokens bad
left_fails None leaves fails = record { why = tt }
left_fails (Some bad) leaves fails = record { why = left_refused leaves fails.why }

-- nothing has been read
pub whole_left : {A : Type 0} (form : A → List Lexeme → Type 0) {goes_on : Word → Type 0} {tokens : List Lexeme} → Leaves form form goes_on tokens tokens
whole_left form = record { part = []; split = refl; into = λ a ts spelled. spelled; back = λ more other after a as_rest same spelled stops. record { part = other; spelled = spelled; behind = same } }

-- all has been read
pub none_left : {A : Type 0} {form : A → List Lexeme → Type 0} {goes_on : Word → Type 0} {tokens rest : List Lexeme} {value : A} → IsRead form goes_on tokens value rest → Leaves form (Done value) goes_on tokens rest
none_left {form = form} read = record {
  part = read.part;
  split = read.split;
  into = λ a ts done. subst (λ (l : List Lexeme). form a l) (sym (ap (λ l. read.part ++ l) done.1 ∙ append-nil read.part)) (subst (λ b. form b read.part) (sym done.0) read.spelled);
  back = λ more other after a as_rest same spelled stops. let one = read.only more other after a as_rest same spelled stops in record { part = []; spelled = (one.0, refl); behind = sym one.1 };
}

pub done_read : {A : Type 0} {form : A → List Lexeme → Type 0} {goes_on : Word → Type 0} {tokens rest : List Lexeme} {value : A} → Leaves form (Done value) goes_on tokens rest → IsRead form goes_on tokens value rest
done_read {form = form} {value = value} leaves = record {
  part = leaves.part;
  split = leaves.split;
  spelled = subst (λ (l : List Lexeme). form value l) (append-nil leaves.part) (leaves.into value [] (refl, refl));
  only = λ more other after w as_rest same spelled stops.
      let l = leaves.back more other after w as_rest same spelled stops in
      (l.spelled.0, sym (l.behind ∙ ap (λ p. p ++ after) l.spelled.1));
}

-- More of what is left has been read.
pub left_leaves : {A : Type 0} {whole left less : A → List Lexeme → Type 0} {goes_on : Word → Type 0} {tokens rest behind : List Lexeme} → Leaves whole left goes_on tokens rest → Leaves left less goes_on rest behind → Leaves whole less goes_on tokens behind
left_leaves {whole = whole} first second = record {
  part = first.part ++ second.part;
  split = both first.part second.part _ first.split second.split;
  into = λ a ts spelled. subst (λ (l : List Lexeme). whole a l) (sym (regroup first.part second.part ts)) (first.into a (second.part ++ ts) (second.into a ts spelled));
  back = λ more other after a as_behind same spelled stops.
      let l = first.back (second.part ++ more) other after a (further _ second.part more second.split as_behind) (sym (regroup first.part second.part more) ∙ same) spelled stops in
      second.back more l.part after a as_behind l.behind l.spelled stops;
}

-- What is left, said in other words.
pub left_as : {A : Type 0} {left other : A → List Lexeme → Type 0} {goes_on : Word → Type 0} {tokens : List Lexeme} → ((a : A) (ts : List Lexeme) → other a ts → left a ts) → ((a : A) (ts : List Lexeme) → left a ts → other a ts) → Leaves left other goes_on tokens tokens
left_as into back = record { part = []; split = refl; into = into; back = λ more front after a as_rest same spelled stops. record { part = front; spelled = back a front spelled; behind = same } }

-- A form whose values are made of those of another, at these tokens.
pub left_made : {A B : Type 0} {p : B → List Lexeme → Type 0} {q : A → List Lexeme → Type 0} {to : B → A} {goes_on : Word → Type 0} {tokens : List Lexeme} → Makes p q to goes_on tokens → Leaves q (Made to p) goes_on tokens tokens
left_made {q = q} {to = to} {tokens = tokens} makes = record {
  part = [];
  split = refl;
  into = λ a ts made. subst (λ b. q b ts) (sym made.is) (makes.into made.of ts made.spelled);
  back = λ more other after a as_rest same spelled stops.
      let was = makes.back a other after (subst (λ (m : List Lexeme). GoesOnAs tokens m) same as_rest) spelled stops in
      record { part = other; spelled = record { of = was.0; spelled = was.1; is = was.2 }; behind = same };
}

-- The first of two forms has been read.
pub first_left : {A B C : Type 0} {p : A → List Lexeme → Type 0} {q : B → List Lexeme → Type 0} {to : A × B → C} {first_goes_on goes_on : Word → Type 0} {rest middle : List Lexeme} {a : A} → Ends first_goes_on q goes_on → IsRead p first_goes_on rest a middle → Leaves (Made to (p ⊗ q)) (Made (λ b. to (a, b)) q) goes_on rest middle
first_left {to = to} {a = a} ends read = record {
  part = read.part;
  split = read.split;
  into = λ c ts made. record { of = (a, made.of); spelled = record { front = read.part; back = ts; split = refl; at_front = read.spelled; at_back = made.spelled }; is = made.is };
  back = λ more other after c as_middle same made stops.
      let s = made.spelled in
      let one = read.only more s.front (s.back ++ after) made.of.0 as_middle (same ∙ ap (λ l. l ++ after) s.split ∙ regroup s.front s.back after) s.at_front (ends made.of.1 s.back after s.at_back stops) in
      record { part = s.back; spelled = record { of = made.of.1; spelled = s.at_back; is = made.is ∙ ap (λ x. to (x, made.of.1)) one.0 }; behind = sym one.1 };
}

-- A front of the first of two forms has been read, the second of which depends on its value.
pub inside_left : {A B : Type 0} {p less : A → List Lexeme → Type 0} (q : A → B → List Lexeme → Type 0) {goes_on : Word → Type 0} {rest middle : List Lexeme} → Leaves p less closed rest middle → Leaves (Through p q) (Through less q) goes_on rest middle
inside_left q leaves = record {
  part = leaves.part;
  split = leaves.split;
  into = λ b ts through.
      let s = through.joined in
      record { middle = through.middle; joined = record { front = leaves.part ++ s.front; back = s.back; split = ap (λ l. leaves.part ++ l) s.split ∙ sym (regroup leaves.part s.front s.back); at_front = leaves.into through.middle s.front s.at_front; at_back = s.at_back } };
  back = λ more other after b as_middle same through stops.
      let s = through.joined in
      let l = leaves.back more s.front (s.back ++ after) through.middle as_middle (same ∙ ap (λ l. l ++ after) s.split ∙ regroup s.front s.back after) s.at_front (stops_closed (s.back ++ after)) in
      record { part = l.part ++ s.back; spelled = record { middle = through.middle; joined = record { front = l.part; back = s.back; split = refl; at_front = l.spelled; at_back = s.at_back } }; behind = l.behind ∙ sym (regroup l.part s.back after) };
}

-- The first of them is refused, and the second can be spelled.
inside_refused : {A B : Type 0} {p : A → List Lexeme → Type 0} (q : A → B → List Lexeme → Type 0) {goes_on : Word → Type 0} {rest bad : List Lexeme} → ((a : A) → HasSample (q a)) → IsRefused p closed rest bad → IsRefused (Through p q) goes_on rest bad
inside_refused q sample refused = let s = sample refused.value in record {
  part = refused.part;
  split = refused.split;
  value = s.value;
  later = refused.later ++ s.tokens;
  begins = record { middle = refused.value; joined = record { front = refused.part ++ refused.later; back = s.tokens; split = sym (regroup refused.part refused.later s.tokens); at_front = refused.begins; at_back = s.spelled } };
  none = λ more other after b as_bad same through stops.
      let j = through.joined in
      refused.none more j.front (j.back ++ after) through.middle as_bad (same ∙ ap (λ l. l ++ after) j.split ∙ regroup j.front j.back after) j.at_front (stops_closed (j.back ++ after));
}

pub inside_fails : {A B : Type 0} {p : A → List Lexeme → Type 0} (q : A → B → List Lexeme → Type 0) {goes_on : Word → Type 0} {rest : List Lexeme} (bad : Option (List Lexeme)) → ((a : A) → HasSample (q a)) → Fails p closed rest bad → Fails (Through p q) goes_on rest bad
inside_fails q None sample fails = record { why = tt }
inside_fails q (Some bad) sample fails = record { why = inside_refused q sample fails.why }

-- Forms in a row, each of which depends on the one before it: how they are grouped changes nothing.
pub regrouped : {A B C : Type 0} (p : A → List Lexeme → Type 0) (q : A → B → List Lexeme → Type 0) (r : B → C → List Lexeme → Type 0) {goes_on : Word → Type 0} {tokens : List Lexeme} → Leaves (Through (Through p q) r) (Through p (λ a. Through (q a) r)) goes_on tokens tokens
regrouped p q r = left_as
    (λ c ts far.
    let s = far.joined in let near = s.at_back in let t = near.joined in
    record {
      middle = near.middle;
      joined = record {
        front = s.front ++ t.front;
        back = t.back;
        split = s.split ∙ ap (λ l. s.front ++ l) t.split ∙ sym (regroup s.front t.front t.back);
        at_front = record { middle = far.middle; joined = record { front = s.front; back = t.front; split = refl; at_front = s.at_front; at_back = t.at_front } };
        at_back = t.at_back;
      };
    })
    (λ c ts near.
    let s = near.joined in let far = s.at_front in let t = far.joined in
    record {
      middle = far.middle;
      joined = record {
        front = t.front;
        back = t.back ++ s.back;
        split = s.split ∙ ap (λ l. l ++ s.back) t.split ∙ regroup t.front t.back s.back;
        at_front = t.at_front;
        at_back = record { middle = near.middle; joined = record { front = t.back; back = s.back; split = refl; at_front = t.at_back; at_back = s.at_back } };
      };
    })

-- behind nothing
pub behind_none : {A B : Type 0} (value : A) (q : A → B → List Lexeme → Type 0) {goes_on : Word → Type 0} {tokens : List Lexeme} → Leaves (Through (Done value) q) (q value) goes_on tokens tokens
behind_none value q = left_as
    (λ b ts spelled. record { middle = value; joined = record { front = []; back = ts; split = refl; at_front = (refl, refl); at_back = spelled } })
    (λ b ts through.
    let s = through.joined in
    subst (λ (l : List Lexeme). q value b l) (sym (s.split ∙ ap (λ l. l ++ s.back) s.at_front.1)) (subst (λ a. q a b s.back) s.at_front.0 s.at_back))

-- nothing stands behind
pub before_none : {A : Type 0} (p : A → List Lexeme → Type 0) {goes_on : Word → Type 0} {tokens : List Lexeme} → Leaves p (Through p (λ a. Done a)) goes_on tokens tokens
before_none p = left_as
    (λ b ts through.
    let s = through.joined in
    subst (λ (l : List Lexeme). p b l) (sym (s.split ∙ ap (λ l. s.front ++ l) s.at_back.1 ∙ append-nil s.front)) (subst (λ a. p a s.front) (sym s.at_back.0) s.at_front))
    (λ b ts spelled. record { middle = b; joined = record { front = ts; back = []; split = sym (append-nil ts); at_front = spelled; at_back = (refl, refl) } })

-- What is made of a form is read as the form is.
pub made_makes : {A B : Type 0} (to : B → A) (p : B → List Lexeme → Type 0) {goes_on : Word → Type 0} {tokens : List Lexeme} → Makes p (Made to p) to goes_on tokens
made_makes to p = record { into = λ b ts spelled. record { of = b; spelled = spelled; is = refl }; back = λ a other after as_tokens made stops. (made.of, made.spelled, made.is) }

-- what is made of what is made
pub makes_of_made : {A B C : Type 0} {p : A → List Lexeme → Type 0} {q : B → List Lexeme → Type 0} {r : C → List Lexeme → Type 0} {to : A → B} {on : B → C} {goes_on : Word → Type 0} {tokens : List Lexeme} → Makes p q to goes_on tokens → Makes q r on goes_on tokens → Makes p r (λ a. on (to a)) goes_on tokens
makes_of_made {to = to} {on = on} first second = record {
  into = λ a ts spelled. second.into (to a) ts (first.into a ts spelled);
  back = λ c other after as_tokens spelled stops.
      let one = second.back c other after as_tokens spelled stops in
      let two = first.back one.0 other after as_tokens one.1 stops in
      (two.0, two.1, one.2 ∙ ap on two.2);
}

-- What is made of two forms, read one after the other.
pub made_through : {A B C : Type 0} (to : A × B → C) (p : A → List Lexeme → Type 0) (q : B → List Lexeme → Type 0) {goes_on : Word → Type 0} {tokens : List Lexeme} → Leaves (Made to (p ⊗ q)) (Through p (λ a. Made (λ b. to (a, b)) q)) goes_on tokens tokens
made_through to p q = left_as
    (λ c ts through.
    let s = through.joined in let second = s.at_back in
    record { of = (through.middle, second.of); spelled = record { front = s.front; back = s.back; split = s.split; at_front = s.at_front; at_back = second.spelled }; is = second.is })
    (λ c ts made.
    let s = made.spelled in
    record { middle = made.of.0; joined = record { front = s.front; back = s.back; split = s.split; at_front = s.at_front; at_back = record { of = made.of.1; spelled = s.at_back; is = made.is } } })

-- Open nodes, the innermost first: what is left of each is known when the node inside it is.
abbrev pub Around : {F X : Type 0} → (F → X → X → List Lexeme → Type 0) → List F → X → X → List Lexeme → Type 0
Around grown [] x = Done x
Around grown (f ∷ fs) x = Through (grown f x) (Around grown fs)

-- A node is opened, and of what stands in it a front is read.
pub around_begins : {F X : Type 0} {whole p less : X → List Lexeme → Type 0} {goes_on : Word → Type 0} {tokens rest behind : List Lexeme} (grown : F → X → X → List Lexeme → Type 0) (f : F) (fs : List F)
    → Leaves whole (Through (Through p (grown f)) (Around grown fs)) goes_on tokens rest → Leaves p less closed rest behind → Leaves whole (Through less (Around grown (f ∷ fs))) goes_on tokens behind
around_begins {p = p} grown f fs so_far front = left_leaves (left_leaves so_far (regrouped p (grown f) (Around grown fs))) (inside_left (Around grown (f ∷ fs)) front)

sample_around : {F X : Type 0} (grown : F → X → X → List Lexeme → Type 0) → ((f : F) (x : X) → HasSample (grown f x)) → (fs : List F) (x : X) → HasSample (Around grown fs x)
sample_around grown sample [] x = record { value = x; tokens = []; spelled = (refl, refl) }
sample_around grown sample (f ∷ fs) x = let first = sample f x in let second = sample_around grown sample fs first.value in
    record { value = second.value; tokens = first.tokens ++ second.tokens; spelled = record { middle = first.value; joined = record { front = first.tokens; back = second.tokens; split = refl; at_front = first.spelled; at_back = second.spelled } } }

pub around_begins_fails : {F X : Type 0} {whole p : X → List Lexeme → Type 0} {goes_on : Word → Type 0} {tokens rest : List Lexeme} (grown : F → X → X → List Lexeme → Type 0) (bad : Option (List Lexeme)) → ((f : F) (x : X) → HasSample (grown f x)) → (f : F) (fs : List F)
    → Leaves whole (Through (Through p (grown f)) (Around grown fs)) goes_on tokens rest → Fails p closed rest bad → Fails whole goes_on tokens bad
around_begins_fails {p = p} grown bad sample f fs so_far fails = left_fails bad (left_leaves so_far (regrouped p (grown f) (Around grown fs))) (inside_fails (Around grown (f ∷ fs)) bad (sample_around grown sample (f ∷ fs)) fails)

-- What stands in a node has been read, and of the node a further front is.
pub around_resumes : {F X : Type 0} {whole less : X → List Lexeme → Type 0} {goes_on : Word → Type 0} {tokens rest behind : List Lexeme} (grown : F → X → X → List Lexeme → Type 0) (x : X) (f : F) (fs : List F)
    → Leaves whole (Through (Done x) (Around grown (f ∷ fs))) goes_on tokens rest → Leaves (grown f x) less closed rest behind → Leaves whole (Through less (Around grown fs)) goes_on tokens behind
around_resumes grown x f fs so_far front = left_leaves (left_leaves so_far (behind_none x (Around grown (f ∷ fs)))) (inside_left (Around grown fs) front)

pub around_resumes_fails : {F X : Type 0} {whole : X → List Lexeme → Type 0} {goes_on : Word → Type 0} {tokens rest : List Lexeme} (grown : F → X → X → List Lexeme → Type 0) (bad : Option (List Lexeme)) → ((f : F) (x : X) → HasSample (grown f x)) → (x : X) (f : F) (fs : List F)
    → Leaves whole (Through (Done x) (Around grown (f ∷ fs))) goes_on tokens rest → Fails (grown f x) closed rest bad → Fails whole goes_on tokens bad
around_resumes_fails grown bad sample x f fs so_far fails = left_fails bad (left_leaves so_far (behind_none x (Around grown (f ∷ fs)))) (inside_fails (Around grown fs) bad (sample_around grown sample fs) fails)

-- All nodes have been closed.
pub around_ends : {F X : Type 0} {whole : X → List Lexeme → Type 0} {goes_on : Word → Type 0} {tokens rest : List Lexeme} (grown : F → X → X → List Lexeme → Type 0) (x : X) → Leaves whole (Through (Done x) (Around grown [])) goes_on tokens rest → IsRead whole goes_on tokens x rest
around_ends grown x so_far = done_read (left_leaves so_far (behind_none x (Around grown [])))
