-- A single number is its own case; a number that is none of them falls to the range's two tests.
use native.Mathlib.Omega.{arith}
use Rattle.contents.specs.Contents.{kind_of}
use Rattle.contents.proofs.KindLaw.{foreign, below, above}
use Rattle.contents.proofs.inner.kind_of.Goals as goal

pub returns-in-1 : goal.returns-in-1
unfolding kind_of
returns-in-1 c = rw c.in-1.is

pub returns-in-2 : goal.returns-in-2
unfolding kind_of
returns-in-2 c = rw c.in-2.is

pub returns-in-3 : goal.returns-in-3
unfolding kind_of
returns-in-3 c = rw c.in-3.is

pub returns-in-4 : goal.returns-in-4
unfolding kind_of
returns-in-4 c = rw c.in-4.is

pub returns-in-5 : goal.returns-in-5
unfolding kind_of
returns-in-5 c = rw c.in-5.is

pub returns-in-128-to-255 : goal.returns-in-128-to-255
returns-in-128-to-255 c = foreign _ c.in-128-to-255.in_default-own.rest (omega arith) (omega arith)

pub returns-in_default : goal.returns-in_default
returns-in_default c = below _ c.in_default.in_default-own.rest (omega arith)

pub returns-in_default-2 : goal.returns-in_default-2
returns-in_default-2 c = above _ c.in_default.in_default-own.rest (omega arith) (omega arith)
