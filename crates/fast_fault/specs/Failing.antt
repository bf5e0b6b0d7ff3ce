-- Objects in memory that fail at listed calls.
use Rattle.std.specs.Prelude.{ℕ, ◌+◌, ◌-◌, ◌^◌, ◌==◌, min, Bool, List, Option, Some, None, Result, Ok, Err, ⊤, cond, find, take, encode_utf8_all}
use Rattle.std.specs.List.{list_any}
use Rattle.std.specs.Option.{option_map}
use Rattle.std.specs.Str.{bytes_eq}
use Rattle.fast_fault.specs.Written.{Appends}
use Rattle.fast_fault.specs.declared.sink.CutAt.{CutAt}
use Rattle.fast_fault.specs.declared.sink.MemSink.{MemSink}
use Rattle.fast_fault.specs.declared.sink.PutFault.{PutFault}
use Rattle.fast_fault.specs.declared.sink.PutFault.TheVariants.{Failed, Memory}
use Rattle.fast_fault.specs.declared.texts.Held.{Held}
use Rattle.fast_fault.specs.declared.texts.MemTexts.{MemTexts}

-- the calls that fail, counted from 1, and how many calls there were
pub record Plan : Type 0 where
  pub failing : List ℕ
  pub calls : ℕ

abbrev pub new_plan : List ℕ → Plan
new_plan failing = record { failing = failing; calls = 0 }

-- after one more call; the count stands still at its last value
abbrev pub after_call : Plan → Plan
after_call plan = record { failing = plan.failing; calls = min (plan.calls + 1) (2 ^ 64 - 1) }

-- whether the last call fails
abbrev pub fails : Plan → Bool
fails plan = list_any (λ n. n == plan.calls) plan.failing

abbrev pub plan_of_sink : MemSink → Plan
plan_of_sink sink = record { failing = sink.failing.items; calls = sink.calls }

abbrev pub cuts_of_sink : MemSink → List CutAt
cuts_of_sink sink = sink.cuts.items

-- How many bytes of its piece the last call appends before it fails: none where it is listed as failing, else as many as
-- its first entry says. Without an entry it doesn't fail.
abbrev pub planned_cut : MemSink → Option ℕ
planned_cut sink = cond (fails (plan_of_sink sink)) (Some 0) (option_map (λ c. c.bytes) (find (λ c. c.call == sink.calls) sink.cuts.items))

-- a put failed where that was planned and nowhere else, and appended so many bytes of its piece, or all of a shorter one
abbrev pub IsPlannedPut : {T : Type 0} → Option ℕ → Option (List ℕ) → Option (List ℕ) → List ℕ → Result T PutFault → Type 0
IsPlannedPut None before after bytes (Ok done) = ⊤
IsPlannedPut None before after bytes (Err Failed) = ⊥
IsPlannedPut None before after bytes (Err Memory) = ⊤
IsPlannedPut (Some count) before after bytes (Ok done) = ⊥
IsPlannedPut (Some count) before after bytes (Err Failed) = Appends before after (take count bytes)
IsPlannedPut (Some count) before after bytes (Err Memory) = ⊤

abbrev pub plan_of_texts : MemTexts → Plan
plan_of_texts texts = record { failing = texts.failing.items; calls = texts.calls }

abbrev pub entries_of_texts : MemTexts → List Held
entries_of_texts texts = texts.entries.items

-- whether a name, given by its bytes, is listed
abbrev pub is_listed : List Held → List ℕ → Bool
is_listed entries name = list_any (λ (entry : Held). bytes_eq (encode_utf8_all entry.name) name) entries
