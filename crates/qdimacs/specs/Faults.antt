-- The numbers of reading's refusals (document 01, "Numbers given back").
-- Assumes nothing.
use Rattle.std.specs.Prelude.{ℕ}

abbrev pub LENGTH : ℕ
LENGTH = 1

abbrev pub SYNTAX : ℕ
SYNTAX = 3

abbrev pub SHORT : ℕ
SHORT = 4

abbrev pub RANGE : ℕ
RANGE = 5

abbrev pub TWICE : ℕ
TWICE = 6

abbrev pub UNBOUND : ℕ
UNBOUND = 7

abbrev pub COUNT : ℕ
COUNT = 8

abbrev pub TOO-BIG : ℕ
TOO-BIG = 9
