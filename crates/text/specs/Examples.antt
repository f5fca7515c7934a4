-- Examples of reading and printing, one list: where careful readers of 01's "Written form" could differ, and P (01, "The listing program").
use Rattle.std.specs.Prelude.{ℕ, zero, suc, Result, Ok, Err, List, [], ◌∷◌, ◌++◌, replicate}
use Rattle.letters.specs.Text.{bytes}
use Rattle.junior.specs.Program.{Program, Nothing, Control}
use Rattle.table.specs.declared.TableRefusal.TheVariants.{BadLength, BadCounts, EndlessLoop}
use Rattle.table.specs.Bytes.{node, configuration, trailer}
use Rattle.text.specs.declared.ReadRefusal.{ReadRefusal}
use Rattle.text.specs.declared.ReadRefusal.TheVariants.{Fails, NoRoom, Table}
use Rattle.text.specs.declared.PrintRefusal.{PrintRefusal}
use Rattle.text.specs.declared.PrintRefusal.TheVariants as told
use Rattle.form.specs.Spelling.{spell}
use Rattle.text.specs.Answers.{Reads, Prints}

-- what is lent, what the room holds afterwards, and the answer
pub data Example : Type 0 where
  reading : (text room after : List ℕ) → Result ℕ ReadRefusal → Example
  printing : (table room after : List ℕ) → Result ℕ PrintRefusal → Example

abbrev pub Shown : Example → Type 0
Shown (reading text room after r) = Reads text room after r
Shown (printing table room after r) = Prints table room after r

-- a room of n bytes
abbrev pub blank : ℕ → List ℕ
blank n = replicate n 255

-- a text that fails at byte k, whatever the room
abbrev pub failing : List ℕ → ℕ → Example
failing w k = reading w [] [] (Err (Fails k))

-- a text that is read into this table
abbrev pub good : List ℕ → List ℕ → ℕ → Example
good w t n = reading w (blank n) t (Ok n)

-- n Controls, one in another, over Nothing
unfoldable pub controls : ℕ → Program
controls zero = Nothing
controls (suc n) = Control 0 (controls n)

-- Par(Await 0, Await 0) with one configuration for both, and one that none uses; V is 9
abbrev pub shared : List ℕ
shared = node 4 0 3 ++ (node 8 0 1 ++ (node 8 0 1 ++ (configuration 0 0 1 ++ (configuration 0 8 1 ++ trailer 3 2 9 26 8))))

-- Await 1023, by the bytes of its record
abbrev pub await_1023 : List ℕ
await_1023 = node 8 0 1 ++ (configuration 48 255 1 ++ trailer 1 1 1024 10 4)

-- RepeatExt of value 15, cap 255 and Stop; If of value 3 and two Atoms
abbrev pub asked_15 : List ℕ
asked_15 = node 15 4095 2 ++ (node 1 0 1 ++ trailer 2 0 1 12 0)

abbrev pub if_3 : List ℕ
if_3 = node 14 3 3 ++ (node 2 1 1 ++ (node 2 2 1 ++ trailer 3 0 1 18 0))

-- Freezable of event 1 and Stop
abbrev pub freezable_1 : List ℕ
freezable_1 = node 13 1 2 ++ (node 1 0 1 ++ trailer 2 0 2 12 0)

abbrev pub examples_list : List Example
examples_list =
    -- F1: the offset is the length of the longest beginning that some text of the form has
    failing (bytes "Jr.Await(1024)") 12
    ∷ failing (bytes "Jr.Await(01)") 10
    ∷ failing (bytes "Jr.Atom(65536)") 12
    ∷ failing (bytes "Jr.Lop") 5
    -- F2, F9: the table's limits don't limit a reading: 4,097 nodes bring 2, not 22
    ∷ reading (spell (controls 4096)) (blank 24592) (blank 24592) (Err (Table BadCounts))
    ∷ reading (bytes "Jr.Loop(Jr.Await(0))") (blank 26) (blank 26) (Err (Table (EndlessLoop 0)))
    -- F3: 21 comes before 22
    ∷ reading (bytes "Jr.Nothing()") (blank 15) (blank 15) (Err NoRoom)
    ∷ reading (bytes "Jr.Nothing(") (blank 15) (blank 15) (Err (Fails 11))
    -- F4: anything behind a whole reading fails there; the empty text fails at 0
    ∷ failing (bytes "Jr.Stop()" ++ (10 ∷ [])) 9
    ∷ failing [] 0
    -- F5: a Seq with one part fails at its bracket
    ∷ failing (bytes "Jr.Seq(Jr.Stop())") 16
    -- F6: V is one above the highest event named anywhere
    ∷ good (bytes "Jr.Local(7, Jr.Nothing())") (node 12 7 2 ++ (node 0 0 1 ++ trailer 2 0 8 12 0)) 22
    -- F6, F7: shared configurations are copied, unused ones vanish, and V is lower
    ∷ printing shared (blank 32) (bytes "Jr.Par(Jr.Await(0), Jr.Await(0))") (Ok 32)
    ∷ good
    (bytes "Jr.Par(Jr.Await(0), Jr.Await(0))")
    (node 4 0 3 ++ (node 8 0 1 ++ (node 8 1 1 ++ (configuration 0 0 1 ++ (configuration 0 0 1 ++ trailer 3 2 1 26 8)))))
    36
    -- F8
    ∷ good (bytes "Jr.Nothing()") (node 0 0 1 ++ trailer 1 0 1 6 0) 16
    ∷ good (bytes "Jr.Await(3)") (node 8 0 1 ++ (configuration 0 3 1 ++ trailer 1 1 4 10 4)) 20
    ∷ good (bytes "Jr.Await((not 3))") (node 8 0 1 ++ (configuration 1 0 2 ++ (configuration 0 3 1 ++ trailer 1 2 4 14 8))) 24
    ∷ good
    (bytes "Jr.When((1 and (not 2)), Jr.Nothing(), Jr.Stop())")
    (node 9 0 3
    ++ (node 0 0 1
    ++ (node 1 0 1 ++ (configuration 2 0 4 ++ (configuration 0 1 1 ++ (configuration 1 0 2 ++ (configuration 0 2 1 ++ trailer 3 4 3 34 16)))))))
    44
    -- L10: an event from 256 on, read and printed
    ∷ good (bytes "Jr.Await(1023)") await_1023 20
    ∷ printing await_1023 (blank 14) (bytes "Jr.Await(1023)") (Ok 14)
    -- L8: the event first, then the body
    ∷ failing (bytes "Jr.Freezable(Jr.Stop())") 13
    ∷ good (bytes "Jr.Freezable(1, Jr.Stop())") freezable_1 22
    ∷ printing freezable_1 (blank 26) (bytes "Jr.Freezable(1, Jr.Stop())") (Ok 26)
    -- L14: the value's number first, then the cap
    ∷ failing (bytes "Jr.If(16, Jr.Stop(), Jr.Stop())") 7
    ∷ failing (bytes "Jr.RepeatExt(1, 256, Jr.Stop())") 18
    ∷ good (bytes "Jr.RepeatExt(15, 255, Jr.Stop())") asked_15 22
    ∷ printing asked_15 (blank 32) (bytes "Jr.RepeatExt(15, 255, Jr.Stop())") (Ok 32)
    ∷ good (bytes "Jr.If(3, Jr.Atom(1), Jr.Atom(2))") if_3 28
    ∷ printing if_3 (blank 32) (bytes "Jr.If(3, Jr.Atom(1), Jr.Atom(2))") (Ok 32)
    -- P, its Seq with three parts
    ∷ good
    (bytes "Jr.Par(Jr.Seq(Jr.Await(0), Jr.Atom(7), Jr.Generate(1)), Jr.Await(1))")
    (node 4 0 7
    ++ (node 3 0 5
    ++ (node 8 0 1
    ++ (node 3 0 3
    ++ (node 2 7 1 ++ (node 7 1 1 ++ (node 8 1 1 ++ (configuration 0 0 1 ++ (configuration 0 1 1 ++ trailer 7 2 2 50 8)))))))))
    60
    -- F10: 24, after 1 to 8
    ∷ printing shared (blank 31) (blank 31) (Err told.NoRoom)
    ∷ printing [] (blank 1) (blank 1) (Err (told.Table BadLength))
    ∷ []

-- what holds of each
pub data All : List Example → Type 0 where
  none : All []
  more : {e : Example} {l : List Example} → Shown e → All l → All (e ∷ l)
