-- What logs keep of a mark.
use Rattle.std.proofs.Common.{◌≡◌, ℕ, zero, suc, ◌≤◌, List, [], ◌∷◌, ◌++◌, length, take, drop, refl, sym, subst, ap, ◌∙◌, arith, append-nil, length-append}
use Rattle.std.proofs.lemmas.List.{length-take-le}
use Rattle.fm_bank.specs.Closure.{Shape}
use Rattle.fm_cells.specs.Logs.{HasLogged, restored}
use Rattle.fm_cells.specs.Rings.{own_or}
use Rattle.fm_cells.proofs.Logging.{logged_more, logged_none, restored_more}
use Rattle.fm_cong.specs.Graphs.{Cells, Extends, cells_of}
use Rattle.fm_cong.specs.Levels.{IsAfter, IsBefore, IsInside, IsKept, IsMarkOf, IsRewound, IsSteady, KeepsClasses, RestoresClasses, cells_at}
use Rattle.fm_cong.specs.States.{count_of}
use Rattle.fm_cong.specs.Tables.{HasGrown}
use Rattle.fm_cong.specs.declared.mark.Mark.{Mark}
use Rattle.fm_cong.specs.declared.state.State.{State}
use Rattle.fm_cong.proofs.Entering.{grown_more, grown_none}
use Rattle.fm_cong.proofs.Merging.{restored_length}

drop_append : {X : Type 0} → (n : ℕ) (xs ys : List X) → n ≤ length xs → drop n (xs ++ ys) ≡ drop n xs ++ ys
drop_append zero xs ys le = refl
drop_append (suc n) [] ys le = absurd (omega (arith, le))
drop_append (suc n) (x ∷ xs) ys le = drop_append n xs ys (omega (arith, le))

drop_split : {X : Type 0} → (m n : ℕ) (xs : List X) → m ≤ n → n ≤ length xs → drop m xs ≡ drop m (take n xs) ++ drop n xs
drop_split m zero xs le ll = drop_none m xs (omega (arith, le))
  where
    drop_none : {X : Type 0} → (m : ℕ) (xs : List X) → m ≡ 0 → drop m xs ≡ drop m (take 0 xs) ++ drop 0 xs
    drop_none zero xs e = refl
    drop_none (suc m) xs e = absurd (omega (arith, e))
drop_split zero (suc n) [] le ll = absurd (omega (arith, ll))
drop_split zero (suc n) (x ∷ xs) le ll = ap (λ ys. x ∷ ys) (drop_split zero n xs (omega arith) (omega (arith, ll)))
drop_split (suc m) (suc n) [] le ll = absurd (omega (arith, ll))
drop_split (suc m) (suc n) (x ∷ xs) le ll = drop_split m n xs (omega (arith, le)) (omega (arith, ll))

pub take_split : {X : Type 0} → (m n : ℕ) (xs : List X) → m ≤ n → take m (take n xs) ≡ take m xs
take_split zero n xs le = refl
take_split (suc m) zero xs le = absurd (omega (arith, le))
take_split (suc m) (suc n) [] le = refl
take_split (suc m) (suc n) (x ∷ xs) le = ap (λ ys. x ∷ ys) (take_split m n xs (omega (arith, le)))

pub take_append : {X : Type 0} → (n : ℕ) (xs ys : List X) → n ≤ length xs → take n (xs ++ ys) ≡ take n xs
take_append zero xs ys le = refl
take_append (suc n) [] ys le = absurd (omega (arith, le))
take_append (suc n) (x ∷ xs) ys le = ap (λ zs. x ∷ zs) (take_append n xs ys (omega (arith, le)))

drop_all : {X : Type 0} → (n : ℕ) (xs : List X) → n ≡ length xs → drop n xs ≡ []
drop_all zero [] e = refl
drop_all zero (x ∷ xs) e = absurd (omega (arith, e))
drop_all (suc n) [] e = refl
drop_all (suc n) (x ∷ xs) e = drop_all n xs (omega (arith, e))

pub take_whole : {X : Type 0} → (n : ℕ) (xs : List X) → n ≡ length xs → take n xs ≡ xs
take_whole zero [] e = refl
take_whole zero (x ∷ xs) e = absurd (omega (arith, e))
take_whole (suc n) [] e = refl
take_whole (suc n) (x ∷ xs) e = ap (λ ys. x ∷ ys) (take_whole n xs (omega (arith, e)))

-- later writes leave what stood at a mark
pub later : {X : Type 0} → (n : ℕ) (a : List (ℕ × X)) (x : List X) (b : List (ℕ × X)) (y : List X) → n ≤ length a → HasLogged a x b y → restored (drop n b) y ≡ restored (drop n a) x
later n a x b y le h = ap (λ log. restored (drop n log) y) h.grown ∙ (ap (λ log. restored log y) (drop_append n a h.tail le) ∙ (restored_more (drop n a) h.tail y ∙ ap (restored (drop n a)) h.back))

-- a rewind leaves what stood at an earlier mark
earlier : {X : Type 0} → (m n : ℕ) (log : List (ℕ × X)) (cells : List X) (log' : List (ℕ × X)) (cells' : List X) → m ≤ n → n ≤ length log → log' ≡ take n log → cells' ≡ restored (drop n log) cells → restored (drop m log') cells' ≡ restored (drop m log) cells
earlier m n log cells log' cells' le ll p q = (λ i. restored (drop m (p i)) (q i)) ∙ (sym (restored_more (drop m (take n log)) (drop n log) cells) ∙ ap (λ l. restored l cells) (sym (drop_split m n log le ll)))

logged_longer : {X : Type 0} → (a : List (ℕ × X)) (x : List X) (b : List (ℕ × X)) (y : List X) (n : ℕ) → HasLogged a x b y → n ≤ length a → n ≤ length b
logged_longer a x b y n h le = omega (arith, le, ap length h.grown, length-append a h.tail)

grown_longer : {X : Type 0} → (a b : List X) (n : ℕ) → HasGrown a b → n ≤ length a → n ≤ length b
grown_longer a b n h le = omega (arith, le, ap length h.1, length-append a h.0)

pub take_grown : {X : Type 0} → (n : ℕ) (a b : List X) → n ≤ length a → HasGrown a b → take n b ≡ take n a
take_grown n a b le h = ap (take n) h.1 ∙ take_append n a h.0 le

pub inside_after : (old new : State) (m : Mark) → IsAfter old new → IsInside old m → IsInside new m
inside_after old new m a i =
    record {
      class = logged_longer old.classes.class.log.items old.classes.class.cells.items new.classes.class.log.items new.classes.class.cells.items m.class a.class i.class;
      next = logged_longer old.classes.next.log.items old.classes.next.cells.items new.classes.next.log.items new.classes.next.cells.items m.next a.next i.next;
      size = logged_longer old.classes.size.log.items old.classes.size.cells.items new.classes.size.log.items new.classes.size.cells.items m.size a.size i.size;
      links = logged_longer old.links.log.items old.links.cells.items new.links.log.items new.links.cells.items m.links a.links i.links;
      table = grown_longer old.table.entries new.table.entries m.table a.table i.table;
      facts = grown_longer old.facts.items new.facts.items m.facts a.facts i.facts;
    }

pub at_after : (old new : State) (m : Mark) → IsAfter old new → IsInside old m → cells_at new m ≡ cells_at old m
at_after old new m a h =
    let class = later m.class old.classes.class.log.items old.classes.class.cells.items new.classes.class.log.items new.classes.class.cells.items h.class a.class in
    let next = later m.next old.classes.next.log.items old.classes.next.cells.items new.classes.next.log.items new.classes.next.cells.items h.next a.next in
    let size = later m.size old.classes.size.log.items old.classes.size.cells.items new.classes.size.log.items new.classes.size.cells.items h.size a.size in
    let links = later m.links old.links.log.items old.links.cells.items new.links.log.items new.links.cells.items h.links a.links in
    let table = take_grown m.table old.table.entries new.table.entries h.table a.table in
    let facts = take_grown m.facts old.facts.items new.facts.items h.facts a.facts in
    λ i. record { class = class i; next = next i; size = size i; links = links i; entries = table i; facts = facts i; entered = m.entered; time = m.links }

pub kept_after : (shapes : List Shape) (old new : State) (m : Mark) → IsAfter old new → IsKept shapes old m → IsKept shapes new m
kept_after shapes old new m a k = record { inside = inside_after old new m a k.inside; steady = subst (IsSteady shapes) (sym (at_after old new m a k.inside)) k.steady }

pub cells_rewound : (s : State) (m : Mark) (new : State) → IsInside s m → IsRewound s m new → cells_of new ≡ cells_at s m
cells_rewound s m new h r =
    let time : length new.links.log.items ≡ m.links = ap length r.links_log ∙ length-take-le m.links s.links.log.items h.links in
    λ i. record { class = r.class i; next = r.next i; size = r.size i; links = r.links i; entries = r.table i; facts = r.facts i; entered = r.entered i; time = time i }

pub inside_rewound : (s : State) (m : Mark) (new : State) (e : Mark) → IsInside s m → IsRewound s m new → IsBefore e m → IsInside new e
inside_rewound s m new e h r b =
    record {
      class = omega (arith, ap length r.class_log, length-take-le m.class s.classes.class.log.items h.class, b.class);
      next = omega (arith, ap length r.next_log, length-take-le m.next s.classes.next.log.items h.next, b.next);
      size = omega (arith, ap length r.size_log, length-take-le m.size s.classes.size.log.items h.size, b.size);
      links = omega (arith, ap length r.links_log, length-take-le m.links s.links.log.items h.links, b.links);
      table = omega (arith, ap length r.table, length-take-le m.table s.table.entries h.table, b.table);
      facts = omega (arith, ap length r.facts, length-take-le m.facts s.facts.items h.facts, b.facts);
    }

pub at_rewound : (s : State) (m : Mark) (new : State) (e : Mark) → IsInside s m → IsRewound s m new → IsBefore e m → cells_at new e ≡ cells_at s e
at_rewound s m new e h r b =
    let class = earlier e.class m.class s.classes.class.log.items s.classes.class.cells.items new.classes.class.log.items new.classes.class.cells.items b.class h.class r.class_log r.class in
    let next = earlier e.next m.next s.classes.next.log.items s.classes.next.cells.items new.classes.next.log.items new.classes.next.cells.items b.next h.next r.next_log r.next in
    let size = earlier e.size m.size s.classes.size.log.items s.classes.size.cells.items new.classes.size.log.items new.classes.size.cells.items b.size h.size r.size_log r.size in
    let links = earlier e.links m.links s.links.log.items s.links.cells.items new.links.log.items new.links.cells.items b.links h.links r.links_log r.links in
    let table = ap (take e.table) r.table ∙ take_split e.table m.table s.table.entries b.table in
    let facts = ap (take e.facts) r.facts ∙ take_split e.facts m.facts s.facts.items b.facts in
    λ i. record { class = class i; next = next i; size = size i; links = links i; entries = table i; facts = facts i; entered = e.entered; time = e.links }

pub kept_rewound : (shapes : List Shape) (s : State) (m : Mark) (new : State) (e : Mark) → IsInside s m → IsRewound s m new → IsBefore e m → IsKept shapes s e → IsKept shapes new e
kept_rewound shapes s m new e h r b k = record { inside = inside_rewound s m new e h r b; steady = subst (IsSteady shapes) (sym (at_rewound s m new e h r b)) k.steady }

pub inside_now : (s : State) (m : Mark) → IsMarkOf s m → IsInside s m
inside_now s m e = record { class = omega (arith, e.class); next = omega (arith, e.next); size = omega (arith, e.size); links = omega (arith, e.links); table = omega (arith, e.table); facts = omega (arith, e.facts) }

pub before_now : (s : State) (m e : Mark) → IsMarkOf s m → IsInside s e → IsBefore e m
before_now s m e n h = record { class = omega (arith, n.class, h.class); next = omega (arith, n.next, h.next); size = omega (arith, n.size, h.size); links = omega (arith, n.links, h.links); table = omega (arith, n.table, h.table); facts = omega (arith, n.facts, h.facts) }

pub at_now : (s : State) (m : Mark) → IsMarkOf s m → cells_at s m ≡ cells_of s
at_now s m e =
    let class = ap (λ log. restored log s.classes.class.cells.items) (drop_all m.class s.classes.class.log.items e.class) in
    let next = ap (λ log. restored log s.classes.next.cells.items) (drop_all m.next s.classes.next.log.items e.next) in
    let size = ap (λ log. restored log s.classes.size.cells.items) (drop_all m.size s.classes.size.log.items e.size) in
    let links = ap (λ log. restored log s.links.cells.items) (drop_all m.links s.links.log.items e.links) in
    let table = take_whole m.table s.table.entries e.table in
    let facts = take_whole m.facts s.facts.items e.facts in
    let entered = e.entered in
    let time = e.links in
    λ i. record { class = class i; next = next i; size = size i; links = links i; entries = table i; facts = facts i; entered = entered i; time = time i }

-- what is taken back after a failure is as before
pub cells_back : (old part new : State) (m : Mark) → IsMarkOf old m → IsAfter old part → IsRewound part m new → cells_of new ≡ cells_of old
cells_back old part new m e a r =
    let h = inside_now old m e in
    cells_rewound part m new (inside_after old part m a h) r ∙ (at_after old part m a h ∙ at_now old m e)

pub kept_back : (shapes : List Shape) (old part new : State) (m n : Mark) → IsMarkOf old m → IsAfter old part → IsRewound part m new → IsKept shapes old n → IsKept shapes new n
kept_back shapes old part new m n e a r k = kept_rewound shapes part m new n (inside_after old part m a (inside_now old m e)) r (before_now old m n e k.inside) (kept_after shapes old part n a k)

pub after_extends : (old new : State) → Extends old new → IsAfter old new
after_extends old new e = record { class = e.class; next = e.next; size = e.size; links = e.links; table = e.table; facts = ([], e.facts ∙ sym (append-nil old.facts.items)) }

pub after_none : (s : State) → IsAfter s s
after_none s = record { class = logged_none s.classes.class.log.items s.classes.class.cells.items; next = logged_none s.classes.next.log.items s.classes.next.cells.items; size = logged_none s.classes.size.log.items s.classes.size.cells.items; links = logged_none s.links.log.items s.links.cells.items; table = grown_none s.table.entries; facts = grown_none s.facts.items }

pub after_more : (a b c : State) → IsAfter a b → IsAfter b c → IsAfter a c
after_more a b c p q =
    record {
      class = logged_more a.classes.class.log.items b.classes.class.log.items c.classes.class.log.items a.classes.class.cells.items b.classes.class.cells.items c.classes.class.cells.items p.class q.class;
      next = logged_more a.classes.next.log.items b.classes.next.log.items c.classes.next.log.items a.classes.next.cells.items b.classes.next.cells.items c.classes.next.cells.items p.next q.next;
      size = logged_more a.classes.size.log.items b.classes.size.log.items c.classes.size.log.items a.classes.size.cells.items b.classes.size.cells.items c.classes.size.cells.items p.size q.size;
      links = logged_more a.links.log.items b.links.log.items c.links.log.items a.links.cells.items b.links.cells.items c.links.cells.items p.links q.links;
      table = grown_more a.table.entries b.table.entries c.table.entries p.table q.table;
      facts = grown_more a.facts.items b.facts.items c.facts.items p.facts q.facts;
    }

-- how many nodes there are
pub count_after : (old new : State) → IsAfter old new → count_of new ≡ count_of old
count_after old new a = sym (restored_length a.class.tail new.classes.class.cells.items) ∙ ap length a.class.back

pub count_rewound : (s : State) (m : Mark) (new : State) → IsInside s m → IsRewound s m new → count_of new ≡ count_of s
count_rewound s m new h r = ap length r.class ∙ restored_length (drop m.class s.classes.class.log.items) s.classes.class.cells.items

pub count_back : (old part new : State) (m : Mark) → IsMarkOf old m → IsAfter old part → IsRewound part m new → count_of new ≡ count_of old
count_back old part new m e a r = count_rewound part m new (inside_after old part m a (inside_now old m e)) r ∙ count_after old part a

-- the class of each node at a mark

pub classes_after : (old new : State) → IsAfter old new → KeepsClasses old new
classes_after old new a m h = ap (λ (c : Cells). own_or c.class) (at_after old new m a h)

pub classes_back : (old part new : State) (mark : Mark) → IsMarkOf old mark → IsAfter old part → IsRewound part mark new → KeepsClasses old new
classes_back old part new mark e a r m h =
    let back = at_rewound part mark new m (inside_after old part mark a (inside_now old mark e)) r (before_now old mark m e h) in
    ap (λ (c : Cells). own_or c.class) (back ∙ at_after old part m a h)

pub classes_restored : (s : State) (mark : Mark) (new : State) → IsInside s mark → IsRewound s mark new → RestoresClasses s mark new
classes_restored s mark new h r = record {
  now = ap (λ (c : Cells). own_or c.class) (cells_rewound s mark new h r);
  before = λ m b. ap (λ (c : Cells). own_or c.class) (at_rewound s mark new m h r b);
}
