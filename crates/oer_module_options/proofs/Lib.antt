mod Splitting
