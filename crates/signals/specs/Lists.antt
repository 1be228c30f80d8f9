-- The signals of a list over lent records and text, whatever numbers stand in it.
use Rattle.std.specs.Prelude.{ℕ, ◌+◌, ◌-◌, min, Bool, ◌&&◌, List, [], ◌∷◌, length, take, drop, nat_le, nat_lt}
use Rattle.names.specs.Names.{Bytes}
use Rattle.signals.specs.declared.list.Record.{Record}
use Rattle.signals.specs.declared.list.SignalList.{SignalList}
use Rattle.signals.specs.Signals.{SignalModel}

-- the bytes from one place to another, of the first n
abbrev pub piece : Bytes → ℕ → ℕ → ℕ → Bytes
piece text n from to = take (to - from) (drop from (take n text))

-- what a record says, of the first n bytes of the text
abbrev pub shown : Bytes → ℕ → Record → SignalModel
shown text n r = record { kind = r.kind; path = piece text n r.start r.middle; body = piece text n r.middle r.end }

-- No signal has text that is not in use, or where that of a later one begins.
unfoldable pub before : ℕ → List Record → ℕ
before used [] = used
before used (r ∷ rs) = min r.start (before used rs)

unfoldable pub told : Bytes → ℕ → List Record → List SignalModel
told text used [] = []
told text used (r ∷ rs) = shown text (before used rs) r ∷ told text used rs

-- the signals that wait, first to last
abbrev pub list_waiting : SignalList → List SignalModel
list_waiting l = told l.text.now l.used (take l.count l.records.now)

-- a record is left, and the bytes for the path and the body
abbrev pub list_fits : SignalList → SignalModel → Bool
list_fits l s =
    nat_lt l.count (length l.records.now) && nat_le (l.used + (length s.path + length s.body)) (length l.text.now)
