-- What is found in a branch, from what is found once more is known there.
use Rattle.std.proofs.Common.{◌≡◌, Bool, Option, Some, None, IsSome, List, length, ℕ, ◌<◌, refl, sym, ap, ◌∙◌, subst}
use Rattle.model_tree.specs.Label.{Label}
use Rattle.label_core.specs.Meaning.{Meaning}
use Rattle.label_split.specs.Known.{Follows, Forces, known_at}
use Rattle.label_split.specs.Numbers.{truths_at}
use Rattle.label_split.specs.Search.{DecidesKnown, IsLooked, IsNext, Looks}
use Rattle.label_split.specs.declared.search.Look.{Look}
use Rattle.label_split.specs.declared.search.Look.TheVariants.{Found, Closed, TooWide, Again, Turn}
use Rattle.label_core.specs.declared.theory.Verdict.TheVariants.{Wide}
use Rattle.label_split.proofs.Forcing.{forces_more}

-- an atom that isn't known once more is wasn't known before
unknown_before : (P : List Bool → Type 0) (old new : List (Option Bool)) → Forces P old new → (i : ℕ) → known_at new i ≡ None → known_at old i ≡ None
unknown_before P old new f i e = by (known_at old i) (f.grown i)
  where
    by : (x : Option Bool) → (IsSome x → known_at new i ≡ x) → x ≡ None
    by None g = refl
    by (Some b) g = let same : Some b ≡ None = sym (g refl) ∙ e in cc

module _ {A V W : Type 0} {label_of : V → Label} {holds : A → Label → Bool} (M : Meaning label_of holds W) (atoms : List A) (asked : List Bool → Type 0) where
  abbrev At : Label → Type 0
  At l = asked (truths_at holds atoms l)

  -- what was forced first is known no less
  looks_more : (old mid new : List (Option Bool)) → Forces asked old mid → (look : Look V W) → Looks M atoms At mid new look → Looks M atoms At old new look
  looks_more old mid new f (Found v) h = h
  looks_more old mid new f Closed h = h
  looks_more old mid new f (TooWide w) h = h
  looks_more old mid new f (Again n a) h = (unknown_before asked old mid f a h.0, h.1)
  looks_more old mid new f (Turn n a s) h = h

  -- an atom that wasn't known comes next
  looks_next : (old new : List (Option Bool)) (number atom : ℕ) (sign : Bool) (look : Look V W) → known_at old atom ≡ None → atom < length new → IsNext number atom sign new look → Looks M atoms At old new look
  looks_next old new number atom sign (Found v) none low h = absurd h
  looks_next old new number atom sign Closed none low h = absurd h
  looks_next old new number atom sign (TooWide w) none low h = absurd h
  looks_next old new number atom sign (Again n a) none low h = (ap (known_at old) h.0 ∙ none, λ e. h.1 (ap (known_at new) (sym h.0) ∙ e))
  looks_next old new number atom sign (Turn n a s) none low h = (subst (λ k. k < length new) (sym h.0) low, ap (known_at new) h.0 ∙ h.1)

  pub looked_next : (old mid new : List (Option Bool)) → Forces asked old mid → Forces asked mid new → (number atom : ℕ) (sign : Bool) (look : Look V W) → known_at mid atom ≡ None → atom < length new → IsNext number atom sign new look → IsLooked M atoms asked old new look
  looked_next old mid new f g number atom sign look none low h = record {
    forces = forces_more asked old mid new f g;
    looks = looks_more old mid new f look (looks_next mid new number atom sign look none low h);
  }

  -- what is known settles all that is asked, and is too wide
  pub looks_wide : (old known : List (Option Bool)) (w : W) → ((truths : List Bool) → Follows known truths → asked truths) → DecidesKnown M atoms known (Wide w) → Looks M atoms At old known (TooWide w)
  looks_wide old known w all d = (d.0, λ far. let both = d.1 far in ((both.0.0, both.0.1, (both.0.2, all (truths_at holds atoms both.0.0) both.0.2)), λ l k q. both.1 l k q.0))
