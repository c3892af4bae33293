mod Unordered
