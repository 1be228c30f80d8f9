-- What a write does to lent bytes: the part stands at its place, or the write was refused.
use Rattle.std.specs.Prelude.{◌≡◌, ℕ, ◌+◌, ◌-◌, ◌<◌, ◌≤◌, min, ◌++◌, length, take, drop, Result, MatchResult}
use Rattle.signature.specs.declared.codes.Code.{Code}
use Rattle.signature.specs.declared.codes.Code.TheVariants.{Array}
use Rattle.outbox.specs.Marshal.{Bytes, Part, contents_at, le32, pad}

-- "Arrays have a maximum length defined to be 2 to the 26th power", and messages one of 2 to the 27th: what ends here passes neither.
abbrev pub longest : ℕ
longest = 67108864

-- how far a message may be written into these bytes
abbrev pub room : Bytes → ℕ
room bytes = min (length bytes) longest

-- the bytes with xs over those at a place
abbrev pub written : Bytes → ℕ → Bytes → Bytes
written was at xs = take at was ++ (xs ++ drop (at + length xs) was)

-- the part stands at `from`, ends at `end`, and nothing else is changed
pub record Wrote (was : Bytes) (from : ℕ) (is : Bytes) (end : ℕ) (w : Part) : Type 0 where
  pub bytes : is ≡ written was from (w from)
  pub ends : end ≡ from + length (w from)
  pub fits : end ≤ room was

-- whatever of the part was written, what stands before it is unchanged
pub record Kept (was : Bytes) (from : ℕ) (is : Bytes) : Type 0 where
  pub below : take from is ≡ take from was
  pub size : length is ≡ length was

-- the part does not fit
pub record Refused (was : Bytes) (from : ℕ) (is : Bytes) (w : Part) : Type 0 where
  pub kept : Kept was from is
  pub full : room was < from + length (w from)

-- the one or the other, as the call answers
pub record Poured {E : Type 0} (was : Bytes) (from : ℕ) (is : Bytes) (r : Result ℕ E) (w : Part) : Type 0 where
  pub by : MatchResult r (λ end. Wrote was from is end w) (λ e. Refused was from is w)

-- bytes were written over, and the place after them is not told
pub record Patched {T E : Type 0} (was : Bytes) (at : ℕ) (is : Bytes) (r : Result T E) (xs : Bytes) : Type 0 where
  pub by : MatchResult r (λ t. (is ≡ written was at xs) × (at + length xs ≤ room was)) (λ e. Kept was at is × (room was < at + length xs))

-- The array that begins at `start` and goes on to `end` has its length; or it cannot be one.
pub record Closed {E : Type 0} (was : Bytes) (start : ℕ) (element : Code) (end : ℕ) (is : Bytes) (r : Result ℕ E) : Type 0 where
  pub by :
      MatchResult r
      (λ to. (to ≡ end) × (is ≡ written was (start + length (pad Array start)) (le32 (end - contents_at element start))) × (contents_at element start ≤ end) × (end ≤ room was))
      (λ e. (is ≡ was) × (contents_at element start ≤ end → room was < end))
