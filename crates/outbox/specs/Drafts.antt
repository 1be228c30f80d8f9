-- Marks, drafts and the outbox.
use Rattle.std.specs.Prelude.{◌≡◌, ℕ, ◌+◌, ◌-◌, ◌<◌, ◌≤◌, cond, ◌++◌, length, take, drop, IfOk, Ok, Err, Result, MatchResult, ◌==◌}
use Rattle.outbox.specs.declared.drafts.Draft.{Draft}
use Rattle.outbox.specs.declared.drafts.Mark.{Mark}
use Rattle.outbox.specs.declared.drafts.Outbox.{Outbox}
use Rattle.outbox.specs.Marshal.{Bytes, Part}
use Rattle.outbox.specs.Pours.{Poured, room}

-- the serial after n: a serial has 32 bits and is never 0
abbrev pub following : ℕ → ℕ
following n = cond (n == 4294967295) 1 (n + 1)

-- nothing is written yet
abbrev pub fresh : Mark
fresh = record { fill = 0; serial = 1 }

-- how much of its message a draft has
abbrev pub drafted : Draft → ℕ
drafted d = d.mark.now.fill - d.start

-- where the message goes on after a call
abbrev pub reached : {T E : Type 0} → Result T E → ℕ → Result ℕ E
reached (Ok t) n = Ok n
reached (Err e) n = Err e

-- A draft goes on by a part, at its offset from the message's first byte; what stands before the message is unchanged.
pub record Went {T E : Type 0} (d : Draft) (was : Bytes) (e : Draft) (is : Bytes) (r : Result T E) (w : Part) : Type 0 where
  pub wrote : Poured (drop d.start was) (drafted d) (drop d.start is) (reached r (drafted e)) w
  pub below : take d.start is ≡ take d.start was
  pub size : length is ≡ length was
  pub fill : IfOk r (λ t. e.mark.now.fill ≡ d.start + drafted e)
  pub serial : e.mark.now.serial ≡ d.mark.now.serial
  pub start : e.start ≡ d.start
  pub lent : e.mark.ghost_name ≡ d.mark.ghost_name

-- A draft goes on to `len` bytes of the lent ones, if there are so many.
pub record Grew {T E : Type 0} (d : Draft) (bytes : Bytes) (e : Draft) (r : Result T E) (len : ℕ) : Type 0 where
  pub fill :
      MatchResult r
      (λ t. (e.mark.now.fill ≡ d.start + len) × (d.start + len ≤ length bytes))
      (λ x. (e.mark.now.fill ≡ d.mark.now.fill) × (length bytes < d.start + len))
  pub serial : e.mark.now.serial ≡ d.mark.now.serial
  pub start : e.start ≡ d.start
  pub lent : e.mark.ghost_name ≡ d.mark.ghost_name

-- what an outbox holds: its bytes up to the mark
abbrev pub kept : Outbox → Bytes
kept o = take o.mark.fill o.bytes.now

-- how many bytes more fit
abbrev pub left : Outbox → ℕ
left o = length o.bytes.now - o.mark.fill

-- A message was added to what the outbox holds, and the serial is used.
pub record Added (o p : Outbox) (message : Bytes) : Type 0 where
  pub kept : kept p ≡ kept o ++ message
  pub fill : p.mark.fill ≡ o.mark.fill + length message
  pub serial : p.mark.serial ≡ following o.mark.serial
  pub fits : length message ≤ room (drop o.mark.fill o.bytes.now)

-- There was no room for it, and the outbox holds what it held.
pub record Declined (o p : Outbox) (message : Bytes) : Type 0 where
  pub kept : kept p ≡ kept o
  pub mark : p.mark ≡ o.mark
  pub full : room (drop o.mark.fill o.bytes.now) < length message

-- the one or the other, over the same bytes of the caller's
pub record Sent {T E : Type 0} (o p : Outbox) (r : Result T E) (message : Bytes) : Type 0 where
  pub by : MatchResult r (λ t. Added o p message) (λ e. Declined o p message)
  pub size : length p.bytes.now ≡ length o.bytes.now
  pub lent : p.bytes.ghost_name ≡ o.bytes.ghost_name
