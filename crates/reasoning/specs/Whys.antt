-- The code's answer for a reason (request 2, "Say why this one is left").
-- Assumes nothing.
use Rattle.std.specs.Prelude.{ℕ, true, false, cond}
use Rattle.meaning.specs.Formula.{Formula}
use Rattle.meaning.specs.WellFormed.{fits}
use Rattle.reasons.specs.Reason.{first_limit, Limit, of_variables, of_clauses, of_literals, Reason, verdict, next_entry, own_entry, too_far_right, not_lighter, between, too_heavy, over_limit}
use Rattle.reasoning.specs.declared.Why.{Why}
use Rattle.reasoning.specs.declared.Why.TheVariants.{True, False, NextEntry, OwnEntry, TooFarRight, NotLighter, Between, TooHeavy, OverVariables, OverClauses, OverLiterals}

unfoldable pub limit_as : Limit → Why
limit_as of_variables = OverVariables
limit_as of_clauses = OverClauses
limit_as of_literals = OverLiterals

unfoldable pub why_as : Reason → Why
why_as (verdict true) = True
why_as (verdict false) = False
why_as (next_entry e) = NextEntry e
why_as (own_entry e) = OwnEntry e
why_as (too_far_right i y u) = TooFarRight i y u
why_as (not_lighter m n) = NotLighter m n
why_as (between e w) = Between e w
why_as (too_heavy m n) = TooHeavy m n
why_as (over_limit l) = limit_as l

-- of a step that is permitted and light enough, with the result ψ: its entry e where the result fits, else the first limit
unfoldable pub limit_or : Formula → ℕ → Why
limit_or ψ e = cond (fits ψ) (OwnEntry e) (limit_as (first_limit ψ))
