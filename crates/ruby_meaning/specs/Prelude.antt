-- The prelude: the methods that are written in Ruby and stand at the start. It is read as every text is.
use Rattle.std.specs.Prelude.{List, [], ◌∷◌, ◌++◌, codes}
use Rattle.ruby_tree.specs.Names.{Bytes}

-- the lines of the text, without the newline that ends each
abbrev pub prelude_lines : List Bytes
prelude_lines =
    codes "class Object" ∷
    codes "  def initialize() end" ∷
    codes "  def ===(o) self == o end" ∷
    codes "  def __puts(x, e)" ∷
    codes "    if x.is_a?(Array)" ∷
    codes "      __emit(\"\\n\", e) if x.empty?" ∷
    codes "      x.each { |y| __puts(y, e) }" ∷
    codes "    else" ∷
    codes "      s = \"#{x}\"" ∷
    codes "      __emit(s, e)" ∷
    codes "      __emit(\"\\n\", e) unless s.end_with?(\"\\n\")" ∷
    codes "    end" ∷
    codes "  end" ∷
    codes "  def puts(*a) __emit(\"\\n\", false) if a.empty?; a.each { |x| __puts(x, false) }; nil end" ∷
    codes "  def warn(*a) a.each { |x| __puts(x, true) }; nil end" ∷
    codes "  def print(*a) a.each { |x| __emit(\"#{x}\", false) }; nil end" ∷
    codes "  def p(*a) a.each { |x| __emit(\"#{x.inspect}\\n\", false) }; a.size > 1 ? a : a[0] end" ∷
    codes "  def raise(*a)" ∷
    codes "    e = a[0]" ∷
    codes "    e = RuntimeError.new(\"unhandled exception\") if a.empty?" ∷
    codes "    e = RuntimeError.new(e) if e.is_a?(String)" ∷
    codes "    e = a.size > 1 ? e.new(a[1]) : e.new if e.is_a?(Class)" ∷
    codes "    __throw(e)" ∷
    codes "  end" ∷
    codes "  def exit(n = 0)" ∷
    codes "    raise(TypeError, \"exit status must be an Integer\") unless n.is_a?(Integer)" ∷
    codes "    raise(RangeError, \"exit status out of range\") unless n >= 0 && n <= 199" ∷
    codes "    raise(SystemExit.new(n))" ∷
    codes "  end" ∷
    codes "  def loop() while true; yield; end end" ∷
    codes "  def proc(&b) b end" ∷
    codes "end" ∷
    codes "class Class" ∷
    codes "  def new(*a, &b) o = __allocate; o.initialize(*a, &b); o end" ∷
    codes "end" ∷
    codes "class Exception" ∷
    codes "  def initialize(m = nil) @__message = m end" ∷
    codes "  def to_s() @__message.nil? ? self.class.name : \"#{@__message}\" end" ∷
    codes "  def message() to_s end" ∷
    codes "  def inspect() \"#<#{self.class.name}: #{self}>\" end" ∷
    codes "end" ∷
    codes "class SystemExit" ∷
    codes "  def initialize(n = 0) super(\"exit\"); @__status = n end" ∷
    codes "  def status() @__status end" ∷
    codes "end" ∷
    codes "class Proc" ∷
    codes "  def self.new(&b) b end" ∷
    codes "end" ∷
    codes "class Integer" ∷
    codes "  def times() i = 0; while i < self; yield i; i += 1; end; self end" ∷
    codes "  def upto(n) i = self; while i <= n; yield i; i += 1; end; self end" ∷
    codes "end" ∷
    codes "class Array" ∷
    codes "  def self.new(n = 0, v = nil) r = []; n.times { r << v }; r end" ∷
    codes "  def each() i = 0; while i < size; yield self[i]; i += 1; end; self end" ∷
    codes "  def each_with_index() i = 0; while i < size; yield self[i], i; i += 1; end; self end" ∷
    codes "  def map() r = []; each { |x| r << yield(x) }; r end" ∷
    codes "  def select() r = []; each { |x| r << x if yield(x) }; r end" ∷
    codes "  def reject() r = []; each { |x| r << x unless yield(x) }; r end" ∷
    codes "  def find() each { |x| return x if yield(x) }; nil end" ∷
    codes "  def any?() each { |x| return true if (block_given? ? yield(x) : x) }; false end" ∷
    codes "  def all?() each { |x| return false unless (block_given? ? yield(x) : x) }; true end" ∷
    codes "  def inject(s) each { |x| s = yield(s, x) }; s end" ∷
    codes "  def sum(s = 0) each { |x| s = s + (block_given? ? yield(x) : x) }; s end" ∷
    codes "  def include?(v) each { |x| return true if x == v }; false end" ∷
    codes "  def sort_by() map { |x| [yield(x), x] }.__sort_pairs end" ∷
    codes "  def compact() reject { |x| x.nil? } end" ∷
    codes "  def join(s = \"\") map { |x| x.is_a?(Array) ? x.join(s) : \"#{x}\" }.__join(s) end" ∷
    codes "  def inspect() \"[\" + map { |x| x.inspect }.__join(\", \") + \"]\" end" ∷
    codes "  def to_s() inspect end" ∷
    codes "  def to_a() self end" ∷
    codes "  def ==(o)" ∷
    codes "    return false unless o.is_a?(Array) && o.size == size" ∷
    codes "    each_with_index { |x, i| return false unless x == o[i] }" ∷
    codes "    true" ∷
    codes "  end" ∷
    codes "end" ∷
    codes "class Hash" ∷
    codes "  def self.new(d = nil) __hash(d) end" ∷
    codes "  def to_a() keys.map { |k| [k, self[k]] } end" ∷
    codes "  def each() to_a.each { |x| yield x }; self end" ∷
    codes "  def map() to_a.map { |x| yield x } end" ∷
    codes "  def select() r = {}; each { |k, v| r[k] = v if yield(k, v) }; r end" ∷
    codes "  def fetch(k) key?(k) ? self[k] : raise(KeyError, \"key not found: #{k.inspect}\") end" ∷
    codes "  def inspect() \"{\" + map { |k, v| k.inspect + \"=>\" + v.inspect }.__join(\", \") + \"}\" end" ∷
    codes "  def to_s() inspect end" ∷
    codes "  def ==(o)" ∷
    codes "    return false unless o.is_a?(Hash) && o.size == size" ∷
    codes "    each { |k, v| return false unless o.key?(k) && v == o[k] }" ∷
    codes "    true" ∷
    codes "  end" ∷
    codes "end" ∷
    codes "class Range" ∷
    codes "  def each() i = first; while i < last || (i == last && !exclude_end?); yield i; i += 1; end; self end" ∷
    codes "  def to_a() r = []; each { |x| r << x }; r end" ∷
    codes "  def map() to_a.map { |x| yield x } end" ∷
    codes "  def ===(v) v.is_a?(Integer) && v >= first && (exclude_end? ? v < last : v <= last) end" ∷
    codes "  def include?(v) self === v end" ∷
    codes "  def ==(o) o.is_a?(Range) && o.inspect == inspect end" ∷
    codes "  def inspect() \"#{first}\" + (exclude_end? ? \"...\" : \"..\") + \"#{last}\" end" ∷
    codes "  def to_s() inspect end" ∷
    codes "end" ∷
    []

abbrev pub lines_joined : List Bytes → Bytes
lines_joined [] = []
lines_joined (f ∷ fs) = f ++ (10 ∷ lines_joined fs)

abbrev pub prelude_text : Bytes
prelude_text = lines_joined prelude_lines
