use Rattle.std.proofs.Common.{◌≡◌, ◌<◌, ℕ, List, map, take, slice_index_or, IsUtf8}
use Rattle.mesh_cli_words.proofs.read.texts.Given as goal

-- the words so far are texts, and those are kept
abbrev pub invariant-loop-word : goal.invariant-loop-word
invariant-loop-word l = ((k : ℕ) (d : List ℕ) → k < l.word-index → IsUtf8 (slice_index_or l.words k d)) × (map (λ s. s.now) l.made.items ≡ take l.word-index l.words)
