-- What is printed into a buffer that must have room for the longest: nothing if it has not, and otherwise the bytes and how many they are.
--
--   short_count, short_bytes      in a buffer that is too short
--   whole_count, whole_bytes      in others
--
-- Assumes nothing.
use mathlib.Core.Path.{◌≡◌, sym, ◌∙◌, ap}
use mathlib.Core.Bool.{Bool}
use mathlib.Core.List.{List}
use Prim.Native.Nat.{ℕ, ◌≤◌, ◌<◌}
use native.Mathlib.Omega.{arith}
use lib.Dec.{leb}
use lib.ListN.{length}
use borrow.Author.Tests.{le-leb, lt-leb}
use Rattle.texts.specs.Printed.{count_if_room, bytes_if_room}
use Rattle.buffers.specs.Put.{Put}
use Rattle.buffers.proofs.PutLaws.{put_at_front}

module _ (most : ℕ) (bytes before : List ℕ) where
  pub short_count : length before < most → 0 ≡ count_if_room (leb most (length before)) bytes
  short_count h = sym (ap (λ (b : Bool). count_if_room b bytes) (lt-leb most (length before) h))

  pub short_bytes : length before < most → before ≡ bytes_if_room (leb most (length before)) bytes before
  short_bytes h = sym (ap (λ (b : Bool). bytes_if_room b bytes before) (lt-leb most (length before) h))

  module _ (fits : length bytes ≤ most) (h : most ≤ length before) {n : ℕ} {after : List ℕ} (p : Put 0 bytes before n after) where
    pub whole_count : n ≡ count_if_room (leb most (length before)) bytes
    whole_count =
        let whole : n ≡ length bytes = omega (arith, p.next_is) in
        whole ∙ sym (ap (λ (b : Bool). count_if_room b bytes) (le-leb most (length before) h))

    pub whole_bytes : after ≡ bytes_if_room (leb most (length before)) bytes before
    whole_bytes =
        p.after_is ∙ put_at_front before bytes (omega arith) ∙
        sym (ap (λ (b : Bool). bytes_if_room b bytes before) (le-leb most (length before) h))
